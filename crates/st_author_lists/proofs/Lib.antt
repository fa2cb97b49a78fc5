pub mod Written
pub mod Going
pub mod Fitted
pub mod Texted
pub mod KnownTexts
pub mod KnownGoing
pub mod KnownWriting
