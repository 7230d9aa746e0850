pub mod CalmLemmas
pub mod TurnLemmas
