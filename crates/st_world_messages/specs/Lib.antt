pub mod Messages
pub mod Order
pub mod Steps
pub mod Texts
