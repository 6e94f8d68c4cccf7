pub mod Words
pub mod Lines
pub mod Texts
pub mod Spelt
pub mod Grammar
pub mod Determined
