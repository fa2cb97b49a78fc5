pub mod Lines
pub mod Told
pub mod Outcomes
pub mod inside
