pub mod NormalTexts
