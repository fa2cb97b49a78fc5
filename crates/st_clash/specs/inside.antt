-- The words of loops and of private functions: no public contract reaches them.
pub mod Bad
pub mod Made
pub mod Schemas
pub mod Seen
pub mod Walk
