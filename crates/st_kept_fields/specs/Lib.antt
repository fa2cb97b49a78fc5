pub mod Fields
pub mod inside
