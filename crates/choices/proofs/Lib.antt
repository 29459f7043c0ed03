pub mod ChoiceLaws
pub mod LowestLaws
pub mod BoundLaws
pub mod JoinLaws
pub mod TieLaws
pub mod SettleLaws
