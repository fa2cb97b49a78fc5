pub mod Placed
pub mod Reached
pub mod Sent
