pub mod Load
pub mod Loaded
