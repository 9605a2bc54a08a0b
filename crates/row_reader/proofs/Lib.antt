pub mod Digits
pub mod NumberTexts
pub mod PlainRows
pub mod RowFacts
pub mod RowFieldFacts
pub mod RowNumberFacts
