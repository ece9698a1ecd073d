-- What the contracts of this crate say, and which instances bytes can stand for.
pub mod Header
pub mod Creation
pub mod Limits
pub mod Answers
pub mod Refused
