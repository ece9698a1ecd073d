-- The laws that belong to no one function.
pub mod Going
pub mod Answers
pub mod Lent
pub mod Stepping
pub mod Lap
