pub mod Families
pub mod FamilyFacts
