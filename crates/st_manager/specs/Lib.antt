pub mod Told
pub mod Stands
pub mod Taking
pub mod inside
