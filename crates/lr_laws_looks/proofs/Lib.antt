mod Acts
pub mod All
pub mod Apart
pub mod Aside
pub mod Came
pub mod Coming
mod Directory
pub mod Dirs
pub mod Elements
pub mod Families
pub mod Free
pub mod Gives
pub mod Hindrances
pub mod Kept
pub mod Lasting
mod Members
pub mod OneOrder
pub mod OneWord
pub mod Ordered
pub mod Pairs
pub mod Placed
pub mod PlacedListed
pub mod Planned
pub mod Quiet
mod Reading
pub mod Ready
pub mod Seen
pub mod SeenListed
mod Sought
pub mod Stood
pub mod Ways
mod Words
