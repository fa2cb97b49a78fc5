pub mod Climbs
pub mod ShownInRows
pub mod MentionsClosed
pub mod AboveTrue
pub mod PutsTrue
pub mod VerdictTrue
pub mod GatheredLists
pub mod ThinChanges
