pub mod Asked
pub mod Numbers
pub mod Places
pub mod Written
