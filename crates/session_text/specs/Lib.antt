-- The texts of the answers of a session.
pub mod Texts
