pub mod Names
pub mod Verdicts
pub mod Turns
pub mod Room
pub mod Shorter
pub mod Beside
