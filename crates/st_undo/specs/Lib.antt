pub mod Undone
pub mod inside
