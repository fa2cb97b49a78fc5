mod UpTables
mod RingsTold
mod ToldAfter
pub mod ToldListings
mod LinksTold
mod LeftOnce
