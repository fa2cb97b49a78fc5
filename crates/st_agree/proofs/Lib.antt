pub mod TestAnswers
mod NamedNodes
pub mod RulesObeyed
mod ShownPlaces
pub mod AllRules
mod FieldsFound
mod NodesTwice
