-- What the lines that call answer.
pub mod Answered
