pub mod Hearing
pub mod Nearness
pub mod OwnNumbers
pub mod Parts
pub mod Quotients
pub mod Weighing
