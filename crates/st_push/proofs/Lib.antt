pub mod ExtensionsBeside
pub mod LaterLists
pub mod ListsPushed
