pub mod CarriedIds
pub mod JoinedSessions
pub mod LeastKnown
pub mod RoomLeft
pub mod MoreEntries
pub mod JoinsEntered
