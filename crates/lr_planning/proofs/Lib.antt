pub mod Hindrances
mod Making
mod Short
mod Standing
