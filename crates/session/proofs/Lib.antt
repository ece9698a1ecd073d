-- Laws of where the feeds of a read and the turns of a run have led.
pub mod Feeding
