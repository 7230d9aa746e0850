pub mod Came
pub mod Clock
pub mod Zone
