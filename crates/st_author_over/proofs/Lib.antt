mod EntriesInParts
mod Found
mod FreeCells
mod OffForests
mod OverItself
mod SidesOfRows
