pub mod TestsTell
pub mod RowsCounted
