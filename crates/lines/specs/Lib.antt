pub mod Control
pub mod Pair
pub mod Value
