pub mod Json
pub mod Print
pub mod Outcome
