pub mod DecimalLaws
pub mod CountLaws
