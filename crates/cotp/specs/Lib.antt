pub mod Params
pub mod Tpdu
pub mod Segment
pub mod Layout
