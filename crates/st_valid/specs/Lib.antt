pub mod Author
pub mod Order
pub mod Sessions
pub mod References
pub mod Ids
pub mod Room
pub mod Context
pub mod Refusals
