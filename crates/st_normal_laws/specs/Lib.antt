pub mod Laid
pub mod Seed
pub mod Two
pub mod inside
