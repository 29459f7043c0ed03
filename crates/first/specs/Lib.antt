pub mod First
pub mod Called
