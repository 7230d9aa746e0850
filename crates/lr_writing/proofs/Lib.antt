pub mod Buffers
mod Causes
mod Coming
pub mod Fits
pub mod Kept
pub mod Named
mod Once
mod Striking
pub mod SyncedLaws
mod Tables
pub mod Telling
