pub mod LimitWords
pub mod Slots
