pub mod OpText
pub mod TableText
pub mod Tables
pub mod Uuids
pub mod inside
