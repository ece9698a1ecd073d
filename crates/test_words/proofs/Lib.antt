-- What is proved of words.
pub mod Filling
pub mod Spelling
pub mod Finding
