pub mod Back
pub mod Cells
pub mod Inverse
pub mod Views
pub mod Waits
