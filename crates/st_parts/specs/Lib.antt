pub mod Joined
pub mod JoinedParts
pub mod Short
pub mod TrimmedChange
pub mod inside
