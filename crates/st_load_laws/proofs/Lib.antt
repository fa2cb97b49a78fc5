pub mod Sets
pub mod FewNames
pub mod Finding
pub mod Drawing
pub mod Ending
pub mod Joining
