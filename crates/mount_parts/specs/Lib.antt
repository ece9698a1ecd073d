-- What mount and restored mount answer, and the bytes that they leave.
pub mod Follows
pub mod Mounting
pub mod RestoredMounting
