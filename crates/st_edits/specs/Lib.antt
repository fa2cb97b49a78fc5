pub mod ArrayTypes
pub mod Paths
pub mod New
pub mod Resolve
pub mod Given
pub mod InEffect
pub mod Fields
pub mod Keeping
