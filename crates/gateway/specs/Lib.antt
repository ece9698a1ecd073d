-- What the exports answer and leave.
pub mod Calls
