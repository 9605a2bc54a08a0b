pub mod Flights
pub mod Found
pub mod Lines
pub mod Payloads
pub mod Sendable
pub mod Slots
pub mod Undamaged
