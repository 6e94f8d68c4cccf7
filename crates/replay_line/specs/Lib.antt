pub mod Word
pub mod Line
pub mod Said
