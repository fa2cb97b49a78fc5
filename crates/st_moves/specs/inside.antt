-- The words of loops and of private functions: no public contract reaches them.
pub mod Fields
pub mod Registers
pub mod Rows
