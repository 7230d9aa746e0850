-- What a run sees of its state and of its logs are looks, listings and reads.
use Rattle.std.proofs.Common.{◌+◌, ◌≤◌, ℕ, Bool, true, false, List, [], ◌∷◌, ◌++◌, length, Option, Result, Ok, Err, sym, subst}
use Rattle.lr_rules.specs.declared.path.Path.{Path}
use Rattle.lr_rules.specs.declared.rule.Rule.{Rule}
use Rattle.lr_rules.specs.StatePath.{state_part}
use Rattle.lr_host.specs.declared.entry.Entry.{Entry}
use Rattle.lr_host.specs.declared.entry.Entry.TheVariants as entry
use Rattle.lr_host.specs.declared.thing.Seen.{Seen}
use Rattle.lr_host.specs.Told.{Each}
use Rattle.lr_host.proofs.Each.{each_append, each_as}
use Rattle.lr_host.specs.Looking.{IsLooking, AreLooking}
use Rattle.lr_state.specs.declared.look.LookStop.{LookStop}
use Rattle.lr_state.specs.ReadPieces.{Reading, Whole, Broken, AreSome, IsReading, reads_from, reads_of}
use Rattle.lr_state.specs.Sights.{StateSight, Failed, Nothing, Saw, StateSights, ShowsState, found, state_look, text_entries, behind_part, behind_state}
use Rattle.lr_laws_looks.proofs.Quiet.{whole_looking, part_looking}
use Rattle.lr_run.specs.Halt.{SomeSeen, of_state, of_looks}
use Rattle.lr_run.specs.InternalRuns.{Looked}

-- each of these pieces has 65,536 bytes at most
abbrev pub AreShort : List (List ℕ) → Type 0
AreShort [] = Unit {0}
AreShort (piece ∷ pieces) = (length piece ≤ 65536) × AreShort pieces

some_short : (pieces : List (List ℕ)) → AreSome 65_536 pieces → AreShort pieces
some_short [] s = tt
some_short (piece ∷ pieces) s = (s.1, some_short pieces s.2)

last_short : (pieces : List (List ℕ)) (last : List ℕ) → AreSome 65_536 pieces → length last ≤ 65536 → AreShort (pieces ++ last ∷ [])
last_short [] last s l = (l, tt)
last_short (piece ∷ pieces) last s l = (s.1, last_short pieces last s.2 l)

-- what holds of looks, and of reads of so many bytes at most: the state
module _ (P : Entry → Type 0) (look : (x : Path) (seen : Option Seen) → P (entry.Look x seen)) (read : (x : Path) (place : ℕ) (piece : List ℕ) → length piece ≤ 65536 → P (entry.Reads x place piece)) where
  reads_so : (path : Path) (place : ℕ) (pieces : List (List ℕ)) → AreShort pieces → Each P (reads_from path place pieces)
  reads_so path place [] s = tt
  reads_so path place (piece ∷ pieces) s = (read path place piece s.0, reads_so path (place + length piece) pieces s.1)

  reading_so : (path : Path) (r : Reading) → IsReading 65_536 r → Each P (reads_of path r)
  reading_so path (Whole pieces last) is = reads_so path 0 (pieces ++ last ∷ []) (last_short pieces last is.0.0 is.1)
  reading_so path (Broken pieces) is = reads_so path 0 pieces (some_short pieces is.0)

  look_so : (path : Path) (s : StateSight) → Each P (state_look path s)
  look_so path Failed = tt
  look_so path Nothing = (look path _, tt)
  look_so path (Saw seen) = (look path _, tt)

  text_so : (state : Path) (there : Bool) (r : Reading) → IsReading 65_536 r → Each P (text_entries state there r)
  text_so state true r is = reading_so state r is
  text_so state false r is = tt

  part_so : (state : Path) (there : Bool) (f : Result Bool LookStop) (r : Reading) → IsReading 65_536 r → Each P (behind_part state there f r)
  part_so state there (Ok stale) r is = text_so state there r is
  part_so state there (Err why) r is = tt

  behind_so : (state : Path) (f : Result Bool LookStop) (part : StateSight) (r : Reading) → IsReading 65_536 r → Each P (behind_state state f part r)
  behind_so state (Ok there) part r is = each_append P (state_look (state_part state) part) (behind_part state there (found part) r) (look_so (state_part state) part) (part_so state there (found part) r is)
  behind_so state (Err why) part r is = tt

  pub state_so : (state : Path) (s : StateSights) (ts : List Entry) → ShowsState state 65_536 s ts → Each P ts
  state_so state s ts shown = subst (Each P) (sym shown.entries) (each_append P (state_look state s.state) (behind_state state (found s.state) s.part s.reading) (look_so state s.state) (behind_so state (found s.state) s.part s.reading shown.reading))

-- and of listings: the logs, and both
module _ (P : Entry → Type 0) (look : (x : Path) (seen : Option Seen) → P (entry.Look x seen)) (list : (x : Path) (names : List (List ℕ)) → P (entry.List x names)) (read : (x : Path) (place : ℕ) (piece : List ℕ) → length piece ≤ 65536 → P (entry.Reads x place piece)) where
  one_so : (e : Entry) → IsLooking e → P e
  one_so (entry.Look x seen) i = look x seen
  one_so (entry.List dir listed) i = list dir listed
  one_so _ i = absurd i

  pub looks_so : (ts : List Entry) → AreLooking ts → Each P ts
  looks_so ts a = each_as IsLooking P ts one_so a

  pub seen_so : (state : Path) (rules : List Rule) (ts : List Entry) → (l : Looked state rules ts) → Each P (l.reads ++ l.looks)
  seen_so state rules ts l = each_append P l.reads l.looks (state_so P look read state l.sights l.reads l.read) (looks_so l.looks (whole_looking rules l.sets l.of_looks l.looks l.shown))

  pub some_so : (state : Path) (rules : List Rule) (ts : List Entry) → SomeSeen state rules ts → Each P ts
  some_so state rules ts (of_state sights shown) = state_so P look read state sights ts shown
  some_so state rules ts (of_looks sights remembered known t) = subst (Each P) (sym t.joined) (each_append P t.front t.back (state_so P look read state sights t.front t.first) (looks_so t.back (part_looking rules t.back t.second)))
