pub mod Front
pub mod Got
pub mod Told
