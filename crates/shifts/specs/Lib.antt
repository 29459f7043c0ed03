pub mod Least
pub mod Shift
