pub mod RowsLater
pub mod PlacesLater
pub mod SoundLater
pub mod RingsLater
pub mod MentionsLater
pub mod StepLater
pub mod SeedOfStep
pub mod StepsFind
