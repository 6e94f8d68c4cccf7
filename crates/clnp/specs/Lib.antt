pub mod Segment
pub mod Label
pub mod Options
pub mod Pdu
pub mod Layout
