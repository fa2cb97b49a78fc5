pub mod Crossed
pub mod Named
