pub mod Generator
pub mod Subjects
pub mod Names
pub mod Requests
pub mod Documents
pub mod Lines
