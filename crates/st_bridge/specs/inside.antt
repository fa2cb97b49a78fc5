-- The words of loops and of private functions: no public contract reaches them.
pub mod Entries
pub mod Walked
pub mod Ways
