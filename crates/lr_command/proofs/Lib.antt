pub mod Asked
pub mod Lent
pub mod Simple
