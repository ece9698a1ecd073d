-- What the lines of a script do.
pub mod Drawn
pub mod Whole
pub mod Nested
