pub mod Kindred
mod AskedBy
mod Looking
mod Choosing
pub mod Known
mod AsideLook
pub mod Behind
mod Adding
pub mod Holding
pub mod Whole
pub mod Built
