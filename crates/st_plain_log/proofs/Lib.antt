pub mod Receiving
pub mod TextsInTurn
pub mod Entries
