pub mod TrimmedSteps
pub mod StepsInTurn
pub mod WayBack
pub mod Effects
mod WrittenMarks
mod FilteredLists
mod ListingItems
mod DifferingNodes
mod PlacesTold
mod CutItems
mod ChangesAlone
mod SomeMentioned
mod ThinListings
