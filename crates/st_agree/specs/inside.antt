-- The words of loops and of private functions: no public contract reaches them.
pub mod Clashes
pub mod Names
pub mod Places
pub mod Rows
