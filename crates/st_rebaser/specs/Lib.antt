pub mod InTurn
pub mod inside
