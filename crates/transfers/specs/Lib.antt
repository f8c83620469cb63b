pub mod Refusals
pub mod Items
pub mod Gets
pub mod Sets
