-- What placing a mount and taking it off answer and write.
pub mod Place
