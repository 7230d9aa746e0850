pub mod Simple
pub mod Scriptless
pub mod Folded
mod Working
pub mod Works
mod Carrying
mod Placing
pub mod Seeing
pub mod Stating
pub mod Called
pub mod Shape
mod Parts
mod Entries
mod Ending
pub mod Hindered
pub mod Taken
pub mod Rotating
pub mod Turned
pub mod Turning
pub mod Owned
pub mod Courses
pub mod Members
mod Keeping
mod Lasting
pub mod Anew
mod Doing
pub mod Knowing
mod Coming
pub mod Evidence
mod Covering
pub mod Made
pub mod Guarding
pub mod Renewing
pub mod Moving
pub mod Lets
mod Newest
pub mod Emptying
mod Trying
pub mod Sighted
pub mod EvidenceDry
pub mod Leaving
pub mod Drying
mod Short
