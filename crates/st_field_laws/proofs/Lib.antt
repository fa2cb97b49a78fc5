pub mod RegisterClash
pub mod RowClash
pub mod RowNames
