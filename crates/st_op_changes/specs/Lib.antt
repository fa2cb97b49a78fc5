pub mod OpChanges
