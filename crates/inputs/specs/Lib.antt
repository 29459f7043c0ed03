pub mod Numbers
pub mod Refusals
pub mod Starts
pub mod Answers
