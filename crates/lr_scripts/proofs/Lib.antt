pub mod Removing
pub mod Running
