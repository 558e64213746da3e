pub mod RowLaws
pub mod Places
pub mod RoomLaws
pub mod ShownLaws
pub mod OpenLaws
