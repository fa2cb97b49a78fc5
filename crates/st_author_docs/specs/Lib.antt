pub mod Authors
pub mod inside
