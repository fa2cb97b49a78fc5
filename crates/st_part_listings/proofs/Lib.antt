mod ListLoops
mod MapListings
