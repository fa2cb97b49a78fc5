pub mod Appending
pub mod Counting
pub mod Cutting
pub mod Outcomes
pub mod Replies
