-- What a line of a session answers on an instance in bytes.
pub mod Reply
pub mod Fields
pub mod Claims
