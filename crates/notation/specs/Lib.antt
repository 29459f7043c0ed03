pub mod Alphabet
pub mod Spelling
pub mod Wrong
pub mod Reader
pub mod Answers
