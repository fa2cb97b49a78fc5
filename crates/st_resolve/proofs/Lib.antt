pub mod One
pub mod OneItem
pub mod RowGroups
