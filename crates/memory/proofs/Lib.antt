pub mod Facts
pub mod Octets
pub mod Compared
