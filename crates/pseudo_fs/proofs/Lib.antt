-- What is proved of the walk, the find and the calls, for the proofs of this crate and of its callers.
pub mod Walks
pub mod Finds
pub mod Calls
pub mod Faults
