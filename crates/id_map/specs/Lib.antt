-- The mapping that the code's struct stands for.
pub mod Mapping
