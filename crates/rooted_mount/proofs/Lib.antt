-- What is proved of the mounts of a path with leading slash.
pub mod PlanWays
