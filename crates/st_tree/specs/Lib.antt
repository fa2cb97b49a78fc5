pub mod Form
pub mod Node
pub mod Preorder
pub mod Size
pub mod inside
