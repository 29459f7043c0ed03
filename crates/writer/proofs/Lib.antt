pub mod SheetLaws
pub mod CheckLaws
pub mod RoundTrip
pub mod Examples
