pub mod Hindered
