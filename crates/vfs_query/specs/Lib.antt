-- What the answers of the calls tell.
pub mod Told
