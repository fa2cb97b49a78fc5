-- The words of loops and of private functions: no public contract reaches them.
pub mod Rising
pub mod Following
pub mod Seating
