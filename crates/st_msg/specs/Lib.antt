pub mod Messages
pub mod Forms
pub mod Within
