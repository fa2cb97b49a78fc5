pub mod Known
pub mod Writing
