-- The words of private functions: no public contract reaches them.
pub mod Marks
pub mod Schemas
pub mod Sources
