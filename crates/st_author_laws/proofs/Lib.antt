pub mod RowsBack
pub mod ReadLists
pub mod StepsBack
pub mod ChangesOver
