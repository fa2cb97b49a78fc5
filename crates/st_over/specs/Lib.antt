pub mod Across
pub mod Laid
pub mod inside
