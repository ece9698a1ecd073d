-- The laws of this crate: `Lens` for whoever reads after a write, `Writes` for whoever writes into a part, `Same` for whoever compares, `Turns` for the loops of `runs`, `Slices` and `Words` of what the library does with a part of a slice and with the bytes of a number.
pub mod Lens
pub mod Writes
pub mod Same
pub mod Turns
pub mod Slices
pub mod Words
