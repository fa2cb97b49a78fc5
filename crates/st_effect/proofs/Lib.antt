pub mod ListLoops
pub mod ShortRows
mod ShortChanges
pub mod FieldLaws
pub mod ItemPairs
pub mod NamesListed
pub mod RowsListed
pub mod RegistersListed
pub mod LooseListed
pub mod VoidIntents
pub mod ShownChanges
pub mod StepListed
