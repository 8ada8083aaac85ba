pub mod Together
pub mod Changes
pub mod Claims
pub mod Keeping
pub mod Known
pub mod Steps
