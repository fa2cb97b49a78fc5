pub mod Authors
pub mod KnownChanges
pub mod Numbered
