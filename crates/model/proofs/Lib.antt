pub mod Keys
pub mod Shares
pub mod Alone
pub mod Joins
pub mod Tidy
pub mod Refusals
