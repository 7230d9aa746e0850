pub mod PutLemmas
pub mod Reported
