pub mod BmLaws
pub mod StepLaws
pub mod Examples
