pub mod Operations
pub mod States
pub mod Steps
pub mod Calls
