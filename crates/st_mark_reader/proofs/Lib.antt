mod Lengths
pub mod OpNumbers
