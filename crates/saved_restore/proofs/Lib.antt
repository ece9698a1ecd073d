-- What is proved of the parts of a state restore.
pub mod Records
pub mod Loads
pub mod StateHead
pub mod StateTests
pub mod Loading
