-- What the find and the calls of the code stand for.
pub mod Finds
pub mod Told
