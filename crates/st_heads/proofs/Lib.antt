mod Leading
pub mod Runs
pub mod Fitting
mod GoingBack
pub mod Having
mod Listed
mod Extending
pub mod Editing
pub mod Differing
