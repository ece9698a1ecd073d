-- Laws of the text that is laid down, and of the plain numbers that a line shows.
pub mod Writes
pub mod Numbers
