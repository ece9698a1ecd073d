-- What is proved of the bytes behind those of an instance.
pub mod Front
pub mod Few
pub mod Placing
pub mod Calls
pub mod State
pub mod Behind
