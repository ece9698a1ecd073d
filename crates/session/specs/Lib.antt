-- What the program makes of what it reads.
pub mod Feeding
