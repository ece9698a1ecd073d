-- What the contracts cite besides the rules.
pub mod Steps
pub mod Checks
pub mod Byte
