pub mod Layout
pub mod Counters
pub mod Changes
pub mod Kept
pub mod OneForm
pub mod Calling
