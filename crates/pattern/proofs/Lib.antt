pub mod LastLaws
pub mod PowerLaws
pub mod EntryLaws
pub mod GrowLaws
pub mod MostLaws
pub mod MaskLaws
pub mod TableLaws
pub mod ShiftTable
