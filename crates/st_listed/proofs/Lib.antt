pub mod RowsNamed
pub mod ShortRows
pub mod SlotsRead
pub mod WholeNamed
