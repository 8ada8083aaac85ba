pub mod Logs
pub mod Views
pub mod Keeping
pub mod Roots
pub mod Steps
pub mod Ends
pub mod Books
pub mod Known
