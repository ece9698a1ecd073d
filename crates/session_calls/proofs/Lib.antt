-- What is proved of the lines that call.
pub mod Lines
