pub mod Seconds
pub mod OneList
pub mod Additions
pub mod Merges
pub mod Searches
pub mod Counts
