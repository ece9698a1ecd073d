-- What is proved of the parts of saved bytes, for the proofs of this crate and of its callers.
pub mod Puts
pub mod Gets
pub mod Starts
