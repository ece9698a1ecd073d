-- What is proved of saved bytes, for the proofs of this crate and of its callers.
pub mod Split
pub mod Left
pub mod Walk
pub mod Twins
pub mod Keeping
pub mod Accepted
