pub mod NamedApart
pub mod OwnedEarly
pub mod inside
