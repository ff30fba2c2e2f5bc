pub mod Flags
pub mod Stores
pub mod Values
