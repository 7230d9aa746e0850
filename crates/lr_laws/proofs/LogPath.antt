-- What the log's path names behind entries of which none renames anything to it.
use Rattle.std.proofs.Common.{◌≡◌, ◌⊎◌, inl, ℕ, Bool, true, false, cond, bytes_eq, refl, List, ◌∷◌}
use Rattle.std.proofs.lemmas.Slice.Eq.{bytes_eq-Decides}
use Rattle.lr_rules.specs.declared.path.Path.{Path}
use Rattle.lr_host.specs.declared.entry.Entry.{Entry}
use Rattle.lr_host.specs.declared.entry.Entry.TheVariants.{Starts, Renames, Makes, MakesDir, Appends, Truncates, Unlinks}
use Rattle.lr_host.specs.declared.entry.Entry.TheVariants as entry
use Rattle.lr_host.specs.declared.thing.Thing.TheVariants as thing
use Rattle.lr_host.specs.World.{Names, put, names, names_after, Past, ◌▸◌, world, Moves, changed}
use Rattle.lr_host.specs.Fits.{Fits}
use Rattle.lr_host.specs.Safe.{IsToLog}
use Rattle.lr_host.specs.Sets.{LogSet}
use Rattle.lr_host.specs.Steps.{changes_of}
use Rattle.lr_host.specs.Told.{Each, IsTools, Made, at_first, by_writer, by_tool}
use Rattle.lr_host.proofs.More.{IsMoreAt, put_at, more_at_on, made_more, wrote_names}
use Rattle.lr_host.proofs.Places.{synced_names}

-- a rename to another path changes no more than that it takes one away
pub moved_aside : (from to : Path) (n n' : Names) (y : Path) → (to ≡ y → ⊥) → n' y ≡ n y → changed (Moves from to) n' y ≡ changed (Moves from to) n y
moved_aside from to n n' y other is = at_to (bytes_eq to y) refl
  where
    at_from : (b : Bool) → cond b thing.Nothing (n' y) ≡ cond b thing.Nothing (n y)
    at_from true = refl
    at_from false = is

    at_to : (b : Bool) → bytes_eq to y ≡ b → cond b (n' from) (put n' from thing.Nothing y) ≡ cond b (n from) (put n from thing.Nothing y)
    at_to true e = absurd (other ((bytes_eq-Decides to y).0 e))
    at_to false e = at_from (bytes_eq from y)

pub more_moved : (from to : Path) (n n' : Names) (y : Path) → (to ≡ y → ⊥) → IsMoreAt y n n' → IsMoreAt y (changed (Moves from to) n) (changed (Moves from to) n')
more_moved from to n n' y other h = at_to (bytes_eq to y) refl
  where
    at_from : (b : Bool) → (cond b thing.Nothing (n' y) ≡ cond b thing.Nothing (n y)) ⊎ ((cond b thing.Nothing (n y) ≡ thing.Nothing) × ((g : ℕ) × (cond b thing.Nothing (n' y) ≡ thing.File g)))
    at_from true = inl refl
    at_from false = h

    at_to : (b : Bool) → bytes_eq to y ≡ b → (cond b (n' from) (put n' from thing.Nothing y) ≡ cond b (n from) (put n from thing.Nothing y)) ⊎ ((cond b (n from) (put n from thing.Nothing y) ≡ thing.Nothing) × ((g : ℕ) × (cond b (n' from) (put n' from thing.Nothing y) ≡ thing.File g)))
    at_to true e = absurd (other ((bytes_eq-Decides to y).0 e))
    at_to false e = at_from (bytes_eq from y)

-- no rename among these goes to the log's path
abbrev pub NoneToLog : LogSet → List Entry → Type 0
NoneToLog s es = Each (λ e. IsToLog s e → ⊥) es

-- the log's path names what these entries make of the names before, or a file that was made since where they leave nothing
pub log_walk : (s : LogSet) (p q : Past) (es : List Entry) → Made p es q → NoneToLog s es → IsMoreAt s.log (names_after (names (world p)) (changes_of es)) (names (world q))
log_walk s p _ _ at_first none = inl refl
log_walk s p _ es (by_writer {q = q} {e = e} m i f) none =
    more_at_on (names_after (names (world p)) (changes_of es)) (names (world q)) (names (world (q ▸ e))) s.log (log_walk s p q es m none) (wrote_names q e s.log i)
log_walk s p _ _ (by_tool {es = es} {q = q} {e = e} m i f) none = go e i f none.0 (log_walk s p q es m none.1)
  where
    n : Names
    n = names_after (names (world p)) (changes_of es)

    go : (e : Entry) → IsTools e → Fits (world q) e → (IsToLog s e → ⊥) → IsMoreAt s.log n (names (world q)) → IsMoreAt s.log (names_after (names (world p)) (changes_of (e ∷ es))) (names (world (q ▸ e)))
    go (Renames from to) i f other more = more_moved from to n (names (world q)) s.log other more
    go (Unlinks x) i f other more = put_at n (names (world q)) x thing.Nothing s.log more
    go (MakesDir x mode) i f other more = put_at n (names (world q)) x thing.Directory s.log more
    go (Makes x mode) i f other more = more_at_on n (names (world q)) (names (world (q ▸ Makes x mode))) s.log more (made_more (names (world q)) x (world q).drawn f.1 s.log)
    go (Starts state now rules) i f other more = more
    go entry.Ends i f other more = more
    go (entry.Look x seen) i f other more = more
    go (entry.List dir listed) i f other more = more
    go (entry.Reads x from piece) i f other more = more
    go (Appends x bytes) i f other more = more
    go (Truncates x) i f other more = more
    go (entry.SyncsFile x) i f other more = more
    go (entry.SyncsDir x) i f other more = more_at_on n (names (world q)) (names (world (q ▸ entry.SyncsDir x))) s.log more (inl (synced_names (world q) x s.log))
    go (entry.Runs program args input ended) i f other more = more
    go _ i f other more = absurd i
