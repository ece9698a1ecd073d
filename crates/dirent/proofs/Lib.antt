-- The laws that belong to no one function: `Records` of one record, `Short` and `Long` of a name laid word by word, `Fills` for
-- whoever lays one record behind another.
pub mod Records
pub mod Short
pub mod Long
pub mod Fills
