pub mod Stretches
pub mod Hybrid
