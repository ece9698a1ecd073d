-- What is proved of the calls on the mount tables.
pub mod UnmountWays
pub mod FirstRows
pub mod MountCalls
pub mod RestoredMountCalls
pub mod Runs
pub mod Refused
