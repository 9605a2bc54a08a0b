pub mod Inside
pub mod Outside
pub mod Product
pub mod Region
