pub mod Bounds
pub mod InLogs
pub mod IdsOfNumbers
pub mod Seen
pub mod OtherForms
pub mod Reading
