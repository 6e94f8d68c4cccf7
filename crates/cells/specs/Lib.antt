pub mod Cell
pub mod Items
pub mod Read
pub mod Good
pub mod Walk
pub mod Answer
