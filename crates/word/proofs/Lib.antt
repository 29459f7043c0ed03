pub mod StateLaws
pub mod WordLaws
pub mod RowLaws
