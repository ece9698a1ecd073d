-- What is proved of mounts placed and taken off.
pub mod Stands
pub mod Returns
