pub mod Seen
pub mod Claims
pub mod Doing
pub mod Kept
pub mod Inside
pub mod Laws
pub mod Plans
pub mod Again
