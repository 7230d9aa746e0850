-- The numbers that a trial draws.
use Rattle.std.specs.Prelude.{ℕ, zero, suc, ◌+◌, ◌*◌, ◌^◌, ◌/◌, ◌%◌}

-- the generator behind a draw
abbrev pub next : ℕ → ℕ
next x = (x * 6364136223846793005 + 1442695040888963407) % 2 ^ 64

-- what is drawn as the generator comes to this state: its upper bits
abbrev pub drawn : ℕ → ℕ
drawn x = x / 2 ^ 33

-- the generator behind two draws
abbrev pub behind_two : ℕ → ℕ
behind_two x = next (next x)

-- the first draw, and the second
abbrev pub first_of : ℕ → ℕ
first_of x = drawn (next x)

abbrev pub second_of : ℕ → ℕ
second_of x = drawn (behind_two x)

-- the generator behind two draws for each of so many logs
abbrev pub behind_logs : ℕ → ℕ → ℕ
behind_logs zero x = x
behind_logs (suc left) x = behind_logs left (behind_two x)
