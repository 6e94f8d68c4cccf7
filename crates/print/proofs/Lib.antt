pub mod Turns
pub mod Wholes
pub mod Says
pub mod Records
