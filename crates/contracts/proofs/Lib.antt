-- What is proved of steps that contracts allow.
pub mod Back
pub mod Made
pub mod Stood
pub mod Answers
pub mod Lives
pub mod PutBack
