pub mod AlikeWorlds
pub mod ClientActs
