mod Candidates
mod Climbing
pub mod Keeping
pub mod Listing
pub mod Marking
pub mod Naming
pub mod Wanting
