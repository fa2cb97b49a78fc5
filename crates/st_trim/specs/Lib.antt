pub mod Covers
pub mod Evicted
pub mod Trimmed
pub mod inside
