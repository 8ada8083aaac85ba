pub mod Demanding
pub mod Playing
pub mod Rounding
pub mod Setting
pub mod Summing
pub mod Walking
