pub mod Applied
pub mod Entries
pub mod LedRows
pub mod MapsCopied
pub mod OneDocument
pub mod RowsLed
pub mod Told
pub mod Written
