-- What the contracts say besides the rules: the places of records.
pub mod Starts
