-- What the contracts of this crate say: bytes read and written at a place.
pub mod Mem
