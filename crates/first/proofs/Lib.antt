pub mod FirstLaws
pub mod CallLaws
