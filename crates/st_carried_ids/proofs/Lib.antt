pub mod Carrying
pub mod Few
pub mod Going
pub mod LogSteps
pub mod Numbered
