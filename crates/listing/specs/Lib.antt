-- What the contracts of this crate say: what a listing answers and leaves.
pub mod Listed
