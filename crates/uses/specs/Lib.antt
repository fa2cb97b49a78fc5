pub mod Beside
pub mod Fresh
