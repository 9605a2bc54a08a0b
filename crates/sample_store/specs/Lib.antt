pub mod Aligned
pub mod Along
pub mod Answers
pub mod Calls
pub mod Instants
pub mod JudgedSet
pub mod Offers
pub mod Stock
