mod CellsTold
mod RowsTold
mod SchemasMeet
