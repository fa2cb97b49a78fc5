mod FilteredLists
mod AcrossListed
mod EntriesOver
mod Refusals
mod ShortChanges
mod WaysTaken
