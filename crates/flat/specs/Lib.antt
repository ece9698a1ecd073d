-- What the numbers of an answer are.
pub mod Flat
