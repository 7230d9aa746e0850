pub mod Classes
pub mod Counts
pub mod Ends
pub mod Matching
pub mod Signs
pub mod Stars
