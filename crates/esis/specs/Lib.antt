pub mod Pdu
pub mod Layout
