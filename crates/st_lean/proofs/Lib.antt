mod RowRoom
mod FewCells
mod RowsRoom
mod SchemasLater
pub mod Laid
