pub mod Runs
pub mod Kept
pub mod Pairs
pub mod Slices
pub mod Found
pub mod Mending
