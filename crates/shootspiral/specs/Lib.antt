pub mod Interface
