pub mod FitsAlike
pub mod MarksOfARow
pub mod OneIntent
