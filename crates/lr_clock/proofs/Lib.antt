pub mod Clocked
pub mod Quiet
pub mod Zoned
