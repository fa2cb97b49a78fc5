pub mod Reversal
pub mod inside
