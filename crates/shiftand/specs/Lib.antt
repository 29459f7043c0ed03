pub mod ShiftAnd
