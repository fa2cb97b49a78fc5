pub mod Branched
pub mod Merged
pub mod Rebased
