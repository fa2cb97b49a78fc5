-- The words of loops and of private functions: no public contract reaches them.
pub mod Left
pub mod Meets
pub mod Registers
pub mod Rows
