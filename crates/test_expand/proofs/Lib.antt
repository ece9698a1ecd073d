-- What is proved of expand.
pub mod Expanding
