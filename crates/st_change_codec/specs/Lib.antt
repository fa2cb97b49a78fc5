pub mod SchemaTexts
pub mod Changes
