pub mod Breaks
pub mod Gaps
pub mod Groups
