pub mod Naming
pub mod OpSpace
pub mod Reading
