-- What the contracts of this crate say: records laid into lent bytes.
pub mod Lays
