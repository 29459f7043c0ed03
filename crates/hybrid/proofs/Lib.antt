pub mod StretchLaws
pub mod StretchLoop
pub mod HybridLaws
