pub mod Floors
pub mod Found
pub mod OneList
pub mod Windowed
