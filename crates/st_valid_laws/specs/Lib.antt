pub mod Schema
pub mod Messages
pub mod Shape
pub mod Taking
