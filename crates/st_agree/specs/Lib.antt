pub mod Apart
pub mod inside
