pub mod Formats
pub mod Lists
pub mod Names
pub mod Numbers
pub mod Words
