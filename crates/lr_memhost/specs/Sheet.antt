-- A sink in memory, as contracts see it.
use Rattle.std.specs.Prelude.{ℕ, List}

pub record Sheet : Type 0 where
  -- what it took
  pub taken : List ℕ
  -- the numbers of the puts that fail
  pub failing : List ℕ
  -- how many puts there were
  pub puts : ℕ
  -- how many of them failed
  pub faults : ℕ
  -- how often there was no memory
  pub starved : ℕ
