pub mod Seen
pub mod Knowing
pub mod Steps
pub mod Plays
pub mod Turns
pub mod Rule
pub mod Calls
