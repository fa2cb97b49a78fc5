pub mod Both
pub mod Signed
pub mod Within
