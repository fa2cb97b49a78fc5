pub mod Members
pub mod Contained
pub mod Lookups
pub mod Climb
pub mod NoRing
pub mod NewRows
pub mod Full
pub mod Turns
pub mod Void
pub mod OneVerdict
pub mod Later
pub mod Unique
pub mod Worked
mod WorkedRows
mod WorkedVerdicts
mod WorkedRegisters
mod WorkedNegative
mod WorkedJoin
pub mod WorkedBack
mod WorkedEmbedding
pub mod Retreat
pub mod WayBack
pub mod Joined
pub mod OneTree
pub mod MarkLengths
pub mod Shared
