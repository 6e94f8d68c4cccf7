pub mod Facility
pub mod Sndcf
pub mod Packet
pub mod Parse
pub mod Layout
