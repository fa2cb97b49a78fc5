pub mod Compared
pub mod Relation
pub mod RelationText
pub mod SchemaLine
pub mod inside
