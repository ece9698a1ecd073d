-- What is proved of a line.
pub mod Fields
pub mod Forms
pub mod Replying
pub mod Claims
