pub mod Parts
pub mod Readers
pub mod Number
pub mod Table
pub mod PhaseLists
