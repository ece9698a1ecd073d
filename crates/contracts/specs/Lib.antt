-- What is said of steps that contracts allow.
pub mod Reads
pub mod Made
pub mod Answers
pub mod Lives
pub mod PutBack
