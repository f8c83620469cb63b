pub mod Columns
pub mod Families
pub mod Places
pub mod Allowed
pub mod Factory
pub mod Writes
