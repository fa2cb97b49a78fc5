pub mod Answers
pub mod Form
pub mod Normal
pub mod Requests
