-- What is proved of view_sum.
pub mod Viewing
