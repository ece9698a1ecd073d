-- What the calls on the mount tables answer, and the bytes that they leave.
pub mod FirstRows
pub mod Unmounting
pub mod Runs
pub mod Refused
