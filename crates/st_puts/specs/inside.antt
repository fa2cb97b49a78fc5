-- The words of loops and of private functions: no public contract reaches them.
pub mod First
pub mod Names
pub mod Puts
pub mod Spots
