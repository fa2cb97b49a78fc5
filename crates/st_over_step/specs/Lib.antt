pub mod Over
pub mod inside
