pub mod Cost
pub mod Kind
pub mod Store
pub mod Alone
pub mod Rust
