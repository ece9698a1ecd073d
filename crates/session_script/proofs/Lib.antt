-- What is proved of the stream.
pub mod Carry
pub mod Bytes
pub mod Going
pub mod Codes
pub mod Lines
pub mod Begun
pub mod Runs
pub mod Onward
pub mod Loops
pub mod Fresh
