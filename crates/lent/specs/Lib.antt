pub mod Over
pub mod Table
