pub mod Preordered
