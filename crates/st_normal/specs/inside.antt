-- The words of loops and of private functions: no public contract reaches them.
pub mod Links
pub mod Naming
pub mod Ring
pub mod Rules
pub mod Scan
