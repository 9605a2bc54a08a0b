pub mod Messages
pub mod Outlet
pub mod Pieces
pub mod Sent
