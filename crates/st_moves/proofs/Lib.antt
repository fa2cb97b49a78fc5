pub mod BetweenSound
pub mod BetweenRows
pub mod CarriedRow
pub mod CarriedRows
pub mod CarriedRegister
pub mod ChangeCarried
pub mod Indices
pub mod OrderedNames
pub mod NamesLeft
pub mod BareRows
pub mod BesideRows
pub mod CarriedFields
pub mod RowNames
mod RoomAfter
