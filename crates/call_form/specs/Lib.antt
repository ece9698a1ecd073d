-- What the contracts of calls have in common.
pub mod Form
