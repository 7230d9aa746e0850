pub mod Adding
pub mod Making
pub mod Named
pub mod Taken
