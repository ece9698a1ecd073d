-- Decimals read, and text written into a slice.
pub mod Read
pub mod Wrote
pub mod Text
pub mod RoundTrip
