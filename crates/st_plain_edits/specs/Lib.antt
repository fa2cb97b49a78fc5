pub mod Taking
pub mod BranchEdits
