pub mod AnswerText
pub mod Header
pub mod Line
pub mod Members
pub mod StepText
pub mod Steps
