pub mod Tests
pub mod Raising
pub mod inside
