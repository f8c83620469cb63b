pub mod CellFacts
pub mod LayoutFacts
pub mod AllowedFacts
pub mod RowFacts
pub mod BlockFacts
pub mod BackFacts
