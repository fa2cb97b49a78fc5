pub mod Meant
pub mod Numbers
pub mod Stands
pub mod inside
