pub mod Stations
pub mod Totals
pub mod Crossings
pub mod Report
pub mod LineHistory
pub mod Account
pub mod Inside
pub mod Told
