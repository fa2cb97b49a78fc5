pub mod Listed
pub mod Walked
pub mod Shown
pub mod ReadRows
pub mod ReadRegisters
pub mod ReadFields
