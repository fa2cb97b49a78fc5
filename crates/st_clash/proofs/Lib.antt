mod ClashFields
pub mod LeastFields
mod InEffect
pub mod RisingListings
pub mod ItemSearch
pub mod Names
pub mod CellsOnce
mod OneRevision
pub mod OwnersTold
mod SeenCells
mod Tables
pub mod RowWalks
