pub mod Moves
pub mod inside
