-- All entries of a reading are looks and reads, so they change nothing.
use Rattle.std.proofs.Common.{◌+◌, Bool, true, false, ℕ, List, [], ◌∷◌, ◌++◌, length, refl, sym, subst, Result, Ok, Err}
use Rattle.lr_rules.specs.declared.path.Path.{Path}
use Rattle.lr_rules.specs.StatePath.{state_part}
use Rattle.lr_host.specs.declared.entry.Entry.{Entry}
use Rattle.lr_host.specs.Quiet.{IsQuiet, AreQuiet}
use Rattle.lr_host.proofs.Each.{each_append}
use Rattle.lr_state.specs.declared.look.LookStop.{LookStop}
use Rattle.lr_state.specs.ReadPieces.{Reading, Whole, Broken, reads_from, reads_of}
use Rattle.lr_state.specs.Sights.{StateSight, Failed, Nothing, Saw, StateSights, ShowsState, found, state_look, text_entries, behind_part, behind_state}

reads_quiet : (path : Path) (place : ℕ) (pieces : List (List ℕ)) → AreQuiet (reads_from path place pieces)
reads_quiet path place [] = tt
reads_quiet path place (piece ∷ pieces) = ((tt, refl), reads_quiet path (place + length piece) pieces)

reading_quiet : (path : Path) (r : Reading) → AreQuiet (reads_of path r)
reading_quiet path (Whole pieces last) = reads_quiet path 0 (pieces ++ last ∷ [])
reading_quiet path (Broken pieces) = reads_quiet path 0 pieces

look_quiet : (path : Path) (s : StateSight) → AreQuiet (state_look path s)
look_quiet path Failed = tt
look_quiet path Nothing = ((tt, refl), tt)
look_quiet path (Saw seen) = ((tt, refl), tt)

text_quiet : (state : Path) (there : Bool) (r : Reading) → AreQuiet (text_entries state there r)
text_quiet state true r = reading_quiet state r
text_quiet state false r = tt

behind_part_quiet : (state : Path) (there : Bool) (f : Result Bool LookStop) (r : Reading) → AreQuiet (behind_part state there f r)
behind_part_quiet state there (Ok stale) r = text_quiet state there r
behind_part_quiet state there (Err why) r = tt

behind_state_quiet : (state : Path) (f : Result Bool LookStop) (part : StateSight) (r : Reading) → AreQuiet (behind_state state f part r)
behind_state_quiet state (Ok there) part r = each_append IsQuiet (state_look (state_part state) part) (behind_part state there (found part) r) (look_quiet (state_part state) part) (behind_part_quiet state there (found part) r)
behind_state_quiet state (Err why) part r = tt

pub state_quiet : (state : Path) (size : ℕ) (s : StateSights) (ts : List Entry) → ShowsState state size s ts → AreQuiet ts
state_quiet state size s ts shown =
    subst AreQuiet (sym shown.entries) (each_append IsQuiet (state_look state s.state) (behind_state state (found s.state) s.part s.reading) (look_quiet state s.state) (behind_state_quiet state (found s.state) s.part s.reading))
