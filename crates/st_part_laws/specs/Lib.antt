pub mod Parts
pub mod Schemas
pub mod Chains
pub mod Turns
