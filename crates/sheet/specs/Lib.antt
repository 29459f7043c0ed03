pub mod Bytes
pub mod Reader
pub mod Answers
pub mod Called
