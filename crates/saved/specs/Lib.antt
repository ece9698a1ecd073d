-- What the contracts say besides the rules: saved bytes walked record by record.
pub mod Scan
pub mod Kept
