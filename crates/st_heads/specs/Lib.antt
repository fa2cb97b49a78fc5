pub mod Heads
pub mod Remembered
pub mod Replicas
pub mod Transactions
pub mod inside
