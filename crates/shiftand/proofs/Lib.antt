pub mod ShiftAndLaws
