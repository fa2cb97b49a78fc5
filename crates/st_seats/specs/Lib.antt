pub mod Seats
pub mod inside
