pub mod LeastLaws
pub mod ShiftLaws
pub mod TrialLaws
