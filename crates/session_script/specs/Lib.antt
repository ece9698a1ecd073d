-- What a piece of a session's input answers, and what a whole input does in any pieces.
pub mod Step
pub mod Feed
pub mod Codes
pub mod Runs
pub mod Fresh
