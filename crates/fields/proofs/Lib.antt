pub mod Tlvs
pub mod Sizes
pub mod Goods
