pub mod Blocks
pub mod Cuts
pub mod Loops
pub mod Pieces
pub mod Readings
pub mod Turns
pub mod Wholes
