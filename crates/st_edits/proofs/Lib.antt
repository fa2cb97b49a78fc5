pub mod Fits
pub mod MoveFits
pub mod Numbered
pub mod NewFits
pub mod Resolved
pub mod Shared
pub mod Given
pub mod SchemaTexts
