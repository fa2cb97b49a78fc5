mod CellSets
mod NamedNodes
mod OwnersTold
mod SeenCells
