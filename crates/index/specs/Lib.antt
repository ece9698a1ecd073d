-- What the contracts say: the slots, what a search finds, and what taking an index does.
pub mod Slots
pub mod Search
pub mod Take
pub mod Lap
