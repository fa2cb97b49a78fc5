pub mod Taking
pub mod NumbersLeft
