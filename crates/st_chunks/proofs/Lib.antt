pub mod Counting
pub mod Found
pub mod Gaps
pub mod GroupCounts
pub mod Splicing
pub mod Walks
