pub mod Classes
pub mod Reached
pub mod Signs
pub mod Taboos
