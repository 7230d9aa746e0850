pub mod Finds
pub mod Free
pub mod Looked
pub mod Planned
pub mod Targets
pub mod True
