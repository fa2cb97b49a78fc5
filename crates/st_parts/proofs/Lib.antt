mod ShortRows
mod FilteredLists
mod CutChanges
pub mod RowsJoined
pub mod TrimmedChanges
mod RegistersOfParts
mod LooseOfParts
mod NamesOfParts
pub mod PartsListed
mod MappedItems
mod PartsTold
mod ShownParts
mod TablesTell
mod AboveNames
mod ShortListings
mod ThinListings
pub mod MentionsListed
