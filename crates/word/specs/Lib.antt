pub mod State
pub mod Word
