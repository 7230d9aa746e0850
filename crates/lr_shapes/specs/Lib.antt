pub mod Deciding
pub mod Fronts
pub mod Names
pub mod Pieces
pub mod Shapes
pub mod Tokens
