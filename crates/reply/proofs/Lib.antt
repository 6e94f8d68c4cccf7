pub mod Shows
pub mod Lines
pub mod Replies
pub mod Determined
pub mod Sizes
