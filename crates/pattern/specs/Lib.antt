pub mod Last
pub mod Tables
pub mod Far
