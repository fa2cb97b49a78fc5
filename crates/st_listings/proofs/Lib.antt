pub mod ListLoops
pub mod MapListings
pub mod MergedListings
pub mod NodesRead
mod Settling
