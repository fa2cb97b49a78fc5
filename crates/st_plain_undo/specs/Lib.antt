pub mod Logged
pub mod Undo
