pub mod OverLaws
pub mod StoreLaws
pub mod MapLaws
pub mod FillLaws
pub mod TableLaws
