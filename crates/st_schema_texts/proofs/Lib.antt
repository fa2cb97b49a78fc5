pub mod Knowing
pub mod Once
