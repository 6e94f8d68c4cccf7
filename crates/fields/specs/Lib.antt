pub mod Tlv
pub mod Member
