pub mod Trouble
