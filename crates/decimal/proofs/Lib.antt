-- What is proved of decimals.
pub mod Steps
pub mod Texts
pub mod RoundTrip
