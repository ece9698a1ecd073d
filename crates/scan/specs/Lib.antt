-- What the contracts of this crate say: a test of bytes, cells under a mask, the first of them, and the cell of a name.
pub mod Bytes
pub mod First
pub mod Key
