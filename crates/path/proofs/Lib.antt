-- What is proved of paths, for the proofs of this crate and of its callers.
pub mod Places
pub mod Naming
pub mod Together
pub mod Words
pub mod Steps
