pub mod Told
pub mod Under
pub mod inside
