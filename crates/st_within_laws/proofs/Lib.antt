pub mod Documents
pub mod MarksWithin
pub mod ChangesWithin
pub mod Revisions
pub mod RowBounds
pub mod ShortTexts
