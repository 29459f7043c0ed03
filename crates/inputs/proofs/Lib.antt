pub mod BadLaws
pub mod CheckLaws
pub mod SearchLaws
pub mod StartLaws
