pub mod ShownTruth
pub mod NamesApart
pub mod MadeOnce
pub mod CellsOnce
