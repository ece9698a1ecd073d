-- The meaning of a conversion's answer.
pub mod Converted
