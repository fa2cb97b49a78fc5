pub mod Doc
pub mod LiveText
pub mod Nodes
pub mod inside
