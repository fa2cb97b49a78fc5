pub mod Along
pub mod Authors
