pub mod StepOver
pub mod inside
