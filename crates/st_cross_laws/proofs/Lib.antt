mod RowsAcross
mod RegistersAcross
pub mod NodesCovered
mod NodesStanding
mod NodesNamed
mod NodesListed
pub mod StepsCrossed
