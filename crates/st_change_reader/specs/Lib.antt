pub mod Reading
pub mod StepReading
