-- The words of loops and of the parts of which listings are made. The contracts of `embed` and `mentioned_nodes` reach
-- none of them; those of the parts that other crates build on do.
pub mod Fields
pub mod Marks
pub mod Places
pub mod Rows
pub mod Standing
pub mod Upwards
pub mod Wants
