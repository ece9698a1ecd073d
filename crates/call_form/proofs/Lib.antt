-- What is proved of what answers tell, and of a value that must be there.
pub mod Apart
pub mod OkOr
