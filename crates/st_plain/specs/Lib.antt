pub mod Replicas
pub mod Stands
pub mod inside
