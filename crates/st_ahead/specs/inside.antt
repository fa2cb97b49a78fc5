-- The words of loops and of private functions: no public contract reaches them.
pub mod Bridging
pub mod Carrying
pub mod Lists
