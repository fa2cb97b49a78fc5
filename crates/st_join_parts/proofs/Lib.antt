mod FoundOnce
mod PlacesBefore
mod NamesTold
mod PartsTold
mod Rules
mod Refusals
