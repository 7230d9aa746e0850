pub mod Barred
pub mod Begun
pub mod Chosen
pub mod Fronts
pub mod Members
pub mod Pairs
