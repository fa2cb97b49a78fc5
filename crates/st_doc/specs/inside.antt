-- The words of loops and of private functions: no public contract reaches them.
pub mod Ahead
pub mod Evictions
pub mod Fitting
pub mod Growing
pub mod LiveText
pub mod TopDown
