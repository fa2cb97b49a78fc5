pub mod Allowed
pub mod Clusters
pub mod Refusals
