pub mod Following
pub mod LoadRules
