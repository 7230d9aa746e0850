pub mod After
mod Cuts
mod Dates
mod Decimals
pub mod Joining
mod Left
pub mod Lengths
pub mod Lines
pub mod Looks
mod Names
mod Numbers
pub mod One
pub mod PartPath
mod Pieces
pub mod Quiet
pub mod RecordLengths
pub mod Tables
mod Texts
pub mod Views
