pub mod Values
pub mod Report
