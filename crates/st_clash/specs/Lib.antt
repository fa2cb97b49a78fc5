pub mod Adds
pub mod Cells
pub mod Owners
pub mod Views
pub mod inside
