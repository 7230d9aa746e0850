pub mod AllQuiet
pub mod Allowed
pub mod Calls
pub mod Going
pub mod Lacking
pub mod Readers
pub mod Scriptless
pub mod Stages
pub mod Telling
pub mod Texts
mod Views
pub mod Visited
pub mod Whole
