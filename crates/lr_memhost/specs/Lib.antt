pub mod Acts
pub mod Calm
pub mod How
pub mod Sheet
