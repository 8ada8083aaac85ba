pub mod Views
pub mod Steps
pub mod Rule
pub mod Plays
pub mod Seats
