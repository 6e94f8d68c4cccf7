pub mod Sign
pub mod Mono
pub mod Whole
