pub mod Authors
pub mod KnownChanges
