pub mod Shown
pub mod Reply
