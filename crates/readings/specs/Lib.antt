pub mod Replies
pub mod Causes
