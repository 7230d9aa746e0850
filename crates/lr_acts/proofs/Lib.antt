pub mod Adding
mod Copies
mod Counting
mod Dirs
pub mod Keeping
mod Naming
mod Parts
mod Programs
pub mod Taking
mod Unnaming
