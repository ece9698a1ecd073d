-- What the parts of a state restore leave.
pub mod Parts
