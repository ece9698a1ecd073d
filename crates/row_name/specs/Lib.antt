-- What the contracts of this crate say: a name copied.
pub mod Copied
