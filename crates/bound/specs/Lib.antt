pub mod Bound
pub mod Called
