pub mod Stands
pub mod inside
