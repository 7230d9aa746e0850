pub mod Before
pub mod Buffer
pub mod Directories
pub mod Fits
pub mod Named
pub mod Synced
pub mod Target
pub mod Writes
