pub mod FirstFailing
pub mod Entered
pub mod NewRevisions
pub mod ValidLogs
pub mod Standing
pub mod RefusedByLog
pub mod Readings
pub mod OneMeaning
