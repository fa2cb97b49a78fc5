pub mod Makers
pub mod inside
