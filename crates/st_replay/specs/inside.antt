-- The words of private functions: no public contract reaches them.
pub mod Going
pub mod Judging
pub mod Known
pub mod Taking
