pub mod Free
pub mod Ids
pub mod Log
pub mod Names
pub mod Reached
pub mod Table
pub mod inside
