pub mod Deciding
pub mod Marking
pub mod Numbers
pub mod Passing
pub mod PlainCauses
pub mod Reading
