pub mod Schemas
pub mod Upgrade
