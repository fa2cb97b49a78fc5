pub mod CarriedDocuments
pub mod JoinsAndWaysBack
pub mod OneChange
pub mod CountsOfNames
pub mod RunsOfCommits
