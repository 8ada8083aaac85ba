pub mod Centres
pub mod Sound
