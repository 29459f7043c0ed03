pub mod SignedLaws
pub mod CodeLaws
pub mod CallLaws
