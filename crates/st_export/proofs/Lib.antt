pub mod InTurn
pub mod Made
pub mod Meeting
pub mod Shown
pub mod Together
