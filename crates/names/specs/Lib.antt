pub mod Ascii
pub mod Place
pub mod Keys
pub mod Texts
pub mod Numbers
