pub mod Schemas
pub mod inside
