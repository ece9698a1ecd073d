-- What is found of the path of a mount.
pub mod PathEnds
