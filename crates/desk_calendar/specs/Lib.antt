pub mod Told
pub mod Nights
pub mod Skies
pub mod Laws
