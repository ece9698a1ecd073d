-- What is proved of the parts of a mount.
pub mod MountWays
