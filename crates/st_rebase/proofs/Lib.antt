pub mod Exchanges
pub mod Rest
pub mod RowsFit
pub mod RowsRebased
pub mod RegistersRebased
pub mod ChangeRebased
mod RegisterLaw
mod RestMarks
mod RowRoom
mod RowsRoom
mod RowOver
mod RoomLater
mod ChangeLater
mod SchemasLater
