pub mod Decimal
pub mod CountLine
