pub mod LeafTexts
pub mod Listings
pub mod Numerals
pub mod Orders
pub mod Points
pub mod Rising
pub mod Shared
