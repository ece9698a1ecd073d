-- What is proved of the bytes of an instance.
pub mod Tab
pub mod Table
pub mod Cells
pub mod Find
pub mod Children
pub mod Numbers
pub mod ByPlace
pub mod Alike
pub mod Answers
pub mod Writes
pub mod Indexes
pub mod Spells
pub mod Heads
pub mod Refine
pub mod RowOf
pub mod Keeps
