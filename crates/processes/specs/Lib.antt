pub mod Place
pub mod Zombie
pub mod Migration
