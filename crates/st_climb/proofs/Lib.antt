pub mod Climbs
pub mod GrownSets
pub mod NodesAbove
pub mod ShortestClimbs
pub mod StepsUp
