pub mod Update
pub mod Pdu
pub mod Layout
