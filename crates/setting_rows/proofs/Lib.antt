pub mod HeadKept
pub mod HeadReading
pub mod WrittenFacts
