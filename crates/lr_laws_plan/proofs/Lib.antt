pub mod Clearing
mod CountedListings
pub mod Dirs
pub mod Elsewhere
pub mod Ends
pub mod Failing
mod Families
pub mod FamiliesListOnce
pub mod Fulfilled
pub mod FulfilledActs
pub mod FulfilledPlanned
pub mod Given
mod Gone
mod Halted
pub mod Jobs
mod Kept
pub mod Known
pub mod Left
pub mod ListsOnce
mod Logs
pub mod Long
mod Looked
pub mod Looking
mod LooksListNone
pub mod Making
mod Moves
pub mod Naming
pub mod Once
mod Plainly
pub mod Reached
mod ReachedActs
mod ReachedPlanned
pub mod Rest
pub mod Run
pub mod Smooth
pub mod Stale
pub mod Standing
pub mod Start
pub mod Steps
pub mod Taken
pub mod Tried
pub mod Truth
pub mod Value
mod Words
mod WordsListOnce
mod Worked
pub mod Writing
mod Written
