pub mod ItemFacts
pub mod GetFacts
pub mod SetFacts
pub mod OneTransfer
