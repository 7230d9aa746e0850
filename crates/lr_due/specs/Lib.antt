pub mod Due
pub mod Tz
pub mod Zone
