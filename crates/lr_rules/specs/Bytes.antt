-- What a byte of a text is.
use Rattle.std.specs.Prelude.{ℕ, ◌==◌, not, ◌&&◌, ◌||◌, Bool, nat_le}

-- space, tab and carriage return
abbrev pub is_blank : ℕ → Bool
is_blank b = b == 32 || (b == 9 || b == 13)

abbrev pub is_no_blank : ℕ → Bool
is_no_blank b = not (is_blank b)

abbrev pub is_newline : ℕ → Bool
is_newline b = b == 10

abbrev pub is_digit : ℕ → Bool
is_digit b = nat_le 48 b && nat_le b 57
