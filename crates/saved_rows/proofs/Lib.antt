-- What is proved of the records that a save puts.
pub mod SaveRecords
