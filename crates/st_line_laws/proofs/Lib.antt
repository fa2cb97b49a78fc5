pub mod BackSeen
pub mod Revealing
pub mod Meant
pub mod Transacted
pub mod Undone
