pub mod OutAside
pub mod Reading
pub mod Came
pub mod Still
pub mod Reached
pub mod Result
pub mod Called
pub mod Moved
