pub mod Behind
mod BothTell
pub mod Makes
pub mod NothingSteps
pub mod OneCall
pub mod OneOutcome
mod OneStep
pub mod Refusals
pub mod Retreats
pub mod SidesAlike
pub mod SidesCells
pub mod SidesMove
mod EmptyChanges
mod EmptyRules
mod PartsLater
mod StaysBack
