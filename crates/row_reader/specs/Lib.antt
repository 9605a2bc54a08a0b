pub mod Faults
pub mod Numbers
pub mod PlainRows
pub mod RowFields
pub mod RowNumbers
pub mod Rows
