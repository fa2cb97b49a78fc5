pub mod Noting
pub mod RangesRead
pub mod StandIns
pub mod Telling
