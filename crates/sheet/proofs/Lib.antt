pub mod SectionLaws
pub mod PlanLaws
pub mod PromiseLaws
pub mod AcceptLaws
pub mod RoundTrip
pub mod PlaceLaws
pub mod Examples
pub mod CalledLaws
