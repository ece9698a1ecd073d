-- The laws that belong to no one function: `First` of the first place where a test holds, `Keys` of the key of a name.
pub mod First
pub mod Keys
pub mod Asked
