pub mod Input
pub mod Spelling
