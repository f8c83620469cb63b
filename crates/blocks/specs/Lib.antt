pub mod Layouts
pub mod Rows
pub mod Blocks
