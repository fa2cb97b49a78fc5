-- The words of private functions: no public contract reaches them.
pub mod Receiving
