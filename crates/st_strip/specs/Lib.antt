pub mod Rest
pub mod inside
