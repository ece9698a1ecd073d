-- What is proved of steps.
pub mod Setting
