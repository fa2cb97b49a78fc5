pub mod ClosedSets
pub mod Mentions
pub mod SpreadTells
pub mod ThinForms
