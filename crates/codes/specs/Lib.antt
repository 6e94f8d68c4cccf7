pub mod Codes
pub mod Entry
