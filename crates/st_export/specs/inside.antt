-- The words of loops and of private functions: no public contract reaches them.
pub mod Beneath
pub mod Members
pub mod Walk
