-- Cells that a line names.
pub mod Cells
