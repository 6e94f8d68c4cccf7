pub mod Firsts
pub mod Thin
pub mod WellFormed
pub mod Determined
