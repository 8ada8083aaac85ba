pub mod Rounds
pub mod Takings
