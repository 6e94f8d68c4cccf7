pub mod Read
pub mod Emit
pub mod Text
pub mod Tests
