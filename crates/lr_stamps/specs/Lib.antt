pub mod Asked
pub mod Clocks
pub mod Dated
pub mod Serials
