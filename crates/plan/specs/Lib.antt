-- What a plan stands for, and what its application writes.
pub mod Plan
pub mod Apply
