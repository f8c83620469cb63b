pub mod OneTransfer
pub mod Named
pub mod Mapped
pub mod StoredFacts
pub mod GoOver
