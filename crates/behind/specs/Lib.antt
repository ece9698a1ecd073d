-- What is said of the bytes behind those of an instance.
pub mod Behind
