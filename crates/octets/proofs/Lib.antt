pub mod Put
pub mod Emits
pub mod Numbers
pub mod Digits
pub mod Tests
pub mod Table
pub mod Picks
pub mod Stands
