pub mod Kinds
pub mod Lines
pub mod Outcome
pub mod Puts
pub mod Reported
