pub mod Bytes
pub mod Copying
pub mod Fits
pub mod Stops
