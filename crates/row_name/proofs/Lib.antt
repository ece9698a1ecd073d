-- The laws that belong to no one function: `Runs` of runs of bytes copied, `Names` of a name in its two cells.
pub mod Runs
pub mod Names
