pub mod NodeText
pub mod inside
