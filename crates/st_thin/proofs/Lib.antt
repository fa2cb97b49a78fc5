pub mod RowsThinned
