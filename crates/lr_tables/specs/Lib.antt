pub mod Table
pub mod Directives
pub mod Cases
