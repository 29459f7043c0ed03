pub mod Values
pub mod Bytes
