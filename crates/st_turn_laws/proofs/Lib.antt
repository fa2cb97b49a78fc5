pub mod LeftMarks
pub mod LeftTruth
pub mod TurnsAgree
