pub mod Duration
pub mod Cadence
pub mod Laws
