pub mod Digits
pub mod Letters
pub mod Members
pub mod First
pub mod Sizes
