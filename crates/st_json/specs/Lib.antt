pub mod Line
pub mod Look
pub mod Order
