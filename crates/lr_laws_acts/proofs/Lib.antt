pub mod Acts
pub mod ActsTurn
pub mod ActsWhole
pub mod Allowed
pub mod Among
mod Beside
pub mod CopiesWhole
mod EmptiedExamples
pub mod Entries
pub mod Firsts
pub mod Fits
pub mod Guarded
pub mod Guarding
pub mod Halves
pub mod Jobs
pub mod Lasting
pub mod Letting
pub mod Lists
pub mod Made
pub mod Marked
pub mod Parting
pub mod Planning
pub mod Rotates
pub mod Seen
pub mod Sets
pub mod Shared
pub mod Stands
pub mod Steps
mod TurnedExamples
pub mod Ways
pub mod Weaves
