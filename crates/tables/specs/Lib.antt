-- What the bytes of an instance stand for, and what is written into them.
pub mod Table
pub mod Layout
pub mod View
pub mod Laid
pub mod Write
pub mod Answer
