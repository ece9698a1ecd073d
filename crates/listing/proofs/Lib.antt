-- The laws that belong to no one function: `Names` of a record by its name, `Rest` of the children that are left, `Answers` of what is answered.
pub mod Names
pub mod Rest
pub mod Answers
