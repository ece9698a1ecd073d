-- What the programs of tests read and reckon.
pub mod Spelt
pub mod Among
pub mod Adler
