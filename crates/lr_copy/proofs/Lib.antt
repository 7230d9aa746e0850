pub mod EachOfBytes
mod Endings
pub mod Keeping
pub mod Pieces
mod Places
mod Stopping
