pub mod TableAnswers
pub mod CountedPieces
pub mod RowsCrossed
pub mod DocumentRowsCrossed
pub mod DocumentRowsOver
pub mod RowsOver
