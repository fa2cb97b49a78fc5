pub mod LeftRegisters
pub mod LeftByChange
pub mod PartsAgree
