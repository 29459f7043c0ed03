pub mod Choices
pub mod Candidates
