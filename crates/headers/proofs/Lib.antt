pub mod HeaderFacts
