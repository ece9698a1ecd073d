-- What is proved of plans and of what they make.
pub mod Nodes
pub mod PlannedNodes
pub mod Spare
pub mod Going
pub mod Fresh
pub mod Grows
pub mod Walked
