-- What is proved of creation, of the layout rule's test, and of what bytes can stand for.
pub mod Laid
pub mod Calls
pub mod Header
pub mod Refusals
pub mod Slots
pub mod Creation
pub mod Refused
pub mod Answers
pub mod Bytes
pub mod Rows
pub mod Onto
