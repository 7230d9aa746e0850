pub mod Bytes
pub mod Lengths
pub mod Names
pub mod Pairs
pub mod Pending
pub mod State
pub mod Tree
