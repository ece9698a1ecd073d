-- What is proved of UTF-8, for the proofs of this crate and of its callers.
pub mod Table
pub mod Plain
