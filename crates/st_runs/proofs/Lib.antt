pub mod Cutting
pub mod Finding
pub mod Keeping
pub mod Melded
