pub mod Lags
pub mod inside
