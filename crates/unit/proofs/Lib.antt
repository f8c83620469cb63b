pub mod RequestFacts
pub mod StartFacts
pub mod OneOutcome
