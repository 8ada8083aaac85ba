pub mod Types
pub mod BackRequest
pub mod BackGroup
pub mod InRange
