pub mod InOrder
pub mod inside
