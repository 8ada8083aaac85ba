pub mod Balance
pub mod Covered
pub mod Laws
