-- What the contracts cite besides the rules.
pub mod Plain
pub mod Sequence
