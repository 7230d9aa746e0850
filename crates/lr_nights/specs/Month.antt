-- The thirty nights that a trial draws: what the writers append, and when the machine stops.
use Rattle.std.specs.Prelude.{◌≡◌, ℕ, zero, suc, ◌+◌, ◌*◌, ◌%◌, ◌==◌, Bool, true, false, cond, pos, ℤ, List, [], ◌∷◌, map}
use Rattle.std.specs.Prelude.{replicate, filter, flat_map, Any, Option, Some, None}
use Rattle.lr_host.specs.declared.entry.Entry.{Entry}
use Rattle.lr_host.specs.declared.entry.Entry.TheVariants as entry
use Rattle.lr_nights.specs.declared.month.Fed.{Fed}
use Rattle.lr_nights.specs.declared.month.Night.{Night}
use Rattle.lr_nights.specs.Draws.{next, behind_two, first_of, second_of, behind_logs}

-- the seconds of a night: five past twelve, the first on 2024-01-02
abbrev pub seconds_of : ℕ → ℕ
seconds_of night = 1704067500 + 86400 * night

-- what a writer appends: 1 to 1,000 bytes of one letter
abbrev pub fed_by : ℕ → ℕ → ℕ → Fed
fed_by writer at x = record { writer = writer; count = 1 + first_of x % 1000; letter = 97 + second_of x % 26; at = pos at }

-- what so many writers append from this one on
abbrev pub feeds_from : ℕ → ℕ → ℕ → ℕ → List Fed
feeds_from writer zero at x = []
feeds_from writer (suc left) at x = fed_by writer at x ∷ feeds_from (writer + 1) left at (behind_two x)

-- One draw says whether the machine stops in the night, and then another at which call of the run.
abbrev pub drawn_stop : ℕ → Option ℕ
drawn_stop x = cond (first_of x % 4 == 0) (Some (second_of x % 200)) None

abbrev pub behind_stop : ℕ → ℕ
behind_stop x = cond (first_of x % 4 == 0) (behind_two x) (next x)

-- a night of so many logs, and the generator behind it
abbrev pub night_of : ℕ → ℕ → ℕ → Night
night_of logs night x = record {
  seconds = pos (seconds_of night);
  feeds = feeds_from 0 logs (seconds_of night) x;
  stop = drawn_stop (behind_logs logs x);
}

abbrev pub behind_night : ℕ → ℕ → ℕ
behind_night logs x = behind_stop (behind_logs logs x)

-- so many nights from this one on
abbrev pub nights_from : ℕ → ℕ → ℕ → ℕ → List Night
nights_from logs night zero x = []
nights_from logs night (suc left) x = night_of logs night x ∷ nights_from logs (night + 1) left (behind_night logs x)

-- The thirty nights of so many logs. The generator begins with their number, and two draws for each log come first: those of its
-- definition.
unfoldable pub drawn_nights : ℕ → List Night
drawn_nights logs = nights_from logs 1 30 (behind_logs logs logs)

-- the entry that it leaves
abbrev pub entry_of : Fed → Entry
entry_of f = entry.Feed f.writer (replicate f.count f.letter) f.at

-- what the writers of so many logs append in the thirty nights, in order
abbrev pub drawn_feeds : ℕ → List Entry
drawn_feeds logs = flat_map (λ night. map entry_of night.feeds) (drawn_nights logs)

-- what writers appended
abbrev pub is_feed : Entry → Bool
is_feed (entry.Feed writer bytes at) = true
is_feed _ = false

abbrev pub feeds_in : List Entry → List Entry
feeds_in es = filter is_feed es

-- a run began at this moment
abbrev pub IsStartAt : ℤ → Entry → Type 0
IsStartAt seconds (entry.Starts state now rules) = now.seconds ≡ seconds
IsStartAt seconds _ = ⊥

abbrev pub HasStartAt : ℤ → List Entry → Type 0
HasStartAt seconds es = Any (IsStartAt seconds) es
