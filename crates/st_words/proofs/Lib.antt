pub mod Forms
pub mod Found
pub mod Numerals
pub mod Taken
