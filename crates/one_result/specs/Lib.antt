-- What is said of every contract of a call that takes storage.
pub mod OneResult
pub mod Own
pub mod Apart
