pub mod Seen
pub mod Meant
pub mod ChangeMentions
pub mod Mentions
pub mod inside
