pub mod PastCommits
pub mod Seated
pub mod SeatsGoOn
pub mod Followed
pub mod NothingSteps
pub mod SeatsEntered
