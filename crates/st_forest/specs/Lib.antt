pub mod RowSteps
pub mod Stands
pub mod inside
