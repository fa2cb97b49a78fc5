pub mod Across
pub mod Left
pub mod Short
pub mod Turned
pub mod WayBack
pub mod inside
