-- The tables as one run of bytes.
pub mod Viewed
