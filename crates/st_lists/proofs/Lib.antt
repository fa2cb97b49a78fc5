pub mod Logs
pub mod Present
pub mod Minima
pub mod Names
pub mod Branches
pub mod Written
pub mod Texts
