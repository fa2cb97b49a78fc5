mod NodesRead
mod EntriesOver
mod OverSteps
mod Listings
mod ShortBefore
mod ThinValues
mod CountsRise
