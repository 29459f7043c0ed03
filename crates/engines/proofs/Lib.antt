pub mod EngineLaws
pub mod CountLaws
