-- What the calls on saved state answer, and the bytes that they leave.
pub mod StateRestoring
pub mod Saving
pub mod Both
