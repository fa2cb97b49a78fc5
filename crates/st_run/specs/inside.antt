-- The words of private functions: no public contract reaches them.
pub mod Comparing
pub mod Ends
pub mod Replaying
pub mod Replies
pub mod Standing
pub mod Trees
pub mod Working
