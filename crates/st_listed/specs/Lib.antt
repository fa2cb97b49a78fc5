pub mod Named
pub mod inside
