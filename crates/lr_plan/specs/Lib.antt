pub mod Asked
pub mod Asking
pub mod Course
pub mod Cut
pub mod Done
pub mod Outcomes
pub mod Planned
pub mod Steps
