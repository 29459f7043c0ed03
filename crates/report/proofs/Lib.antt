pub mod ValueLaws
pub mod RoomLaws
pub mod BoundLaws
pub mod PromiseLaws
