-- What is proved of the calls on saved state.
pub mod StateWays
pub mod SaveWays
pub mod Both
