pub mod Table
pub mod Parser
pub mod inside
