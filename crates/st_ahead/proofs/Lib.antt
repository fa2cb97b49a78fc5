pub mod Along
pub mod AheadLists
pub mod CaughtUp
pub mod Carried
pub mod LagsEntered
pub mod Bridged
