pub mod Line
pub mod Number
pub mod Limit
pub mod Write
