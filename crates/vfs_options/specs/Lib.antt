-- The options that the code's struct stands for.
pub mod Given
