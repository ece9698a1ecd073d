-- What the size of the records answers.
pub mod Parts
