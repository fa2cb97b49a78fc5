pub mod AuthorsLists
pub mod NamesOfChanges
