mod Steps
mod Assembled
mod Picks
pub mod Picked
mod Rows
pub mod JoinFits
mod JoinIntents
pub mod JoinOf
pub mod JoinNames
