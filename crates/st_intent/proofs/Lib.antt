pub mod Tells
pub mod Ends
pub mod Scans
pub mod Obeyed
