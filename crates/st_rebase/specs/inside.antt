-- The words of loops and of private functions: no public contract reaches them.
pub mod Marks
pub mod Room
pub mod Over
pub mod Base
