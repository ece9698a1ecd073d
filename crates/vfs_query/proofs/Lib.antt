-- The laws that belong to no one function.
pub mod Rules
pub mod Mounted
pub mod Looks
