pub mod Building
pub mod Footprints
pub mod Kept
pub mod Places
pub mod Tables
pub mod Takings
