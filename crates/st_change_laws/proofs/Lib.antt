mod ReadValues
mod Members
mod Changes
mod Plain
pub mod ToldValues
mod Before
mod Steps
mod ToldSteps
mod OpNumbersTold
