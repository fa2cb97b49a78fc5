pub mod World
pub mod Branches
pub mod Kept
pub mod Undo
pub mod Upgrade
pub mod Texts
pub mod Edits
