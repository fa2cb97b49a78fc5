pub mod Existence
pub mod Joined
pub mod Register
pub mod Readings
pub mod inside
