pub mod Forms
pub mod Values
pub mod Says
pub mod Limits
