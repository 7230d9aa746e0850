pub mod Aside
pub mod Finishing
pub mod Moved
pub mod Waiting
pub mod Worked
