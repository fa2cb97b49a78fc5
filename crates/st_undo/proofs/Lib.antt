pub mod GoingOver
pub mod WindowLeads
pub mod WaysBack
pub mod Places
pub mod Answered
pub mod Outcomes
