pub mod Each
pub mod PlaceFacts
pub mod FactoryFacts
pub mod WidthFacts
pub mod Options
