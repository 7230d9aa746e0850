pub mod Audits
pub mod Gaps
pub mod InternalKnown
pub mod Lines
pub mod Removed
pub mod Unlinked
