pub mod KmpLaws
pub mod CarryLaws
pub mod StandLaws
