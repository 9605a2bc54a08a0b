pub mod Bounded
pub mod Clock
pub mod Exchange
pub mod Hand
pub mod Journal
pub mod Reading
