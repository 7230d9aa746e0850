-- Facts of names that last: what writers make doesn't end them, nor what the tool changes.
use Rattle.std.proofs.Common.{◌≡◌, inl, Bool, true, false, cond, refl, sym, ap, subst, Option, List, ◌∷◌, reverse}
use Rattle.std.specs.Prelude.{filter}
use Rattle.std.proofs.lemmas.List.{reverse-reverse}
use Rattle.lr_host.specs.declared.entry.Entry.{Entry}
use Rattle.lr_host.specs.declared.journal.Journal.{Journal}
use Rattle.lr_host.specs.Fits.{Fits}
use Rattle.lr_host.specs.Lists.{IsIn}
use Rattle.lr_host.specs.Opening.{IsJournal}
use Rattle.lr_host.specs.Quiet.{AreQuiet}
use Rattle.lr_host.specs.Steps.{is_change}
use Rattle.lr_host.specs.Told.{Each, Made, at_first, by_writer, by_tool, Left, not_told, is_told, WhereTold}
use Rattle.lr_host.specs.World.{Past, ◌▸◌, past, world, Names, names}
use Rattle.lr_host.proofs.Each.{each_reverse, filter_reverse}
use Rattle.lr_host.proofs.Lists.{from_reverse}
use Rattle.lr_host.proofs.More.{wrote_names}
use Rattle.lr_host.proofs.Quiet.{IsAny, since_any, looked_names, moment, no_disk_change, quiet_changes, quiet_more, quiet_still, still_in_order}
use Rattle.lr_host.proofs.Stays.{Stays}
use Rattle.lr_laws_acts.proofs.Seen.{quiet_disk}

-- the fact is so where the journal is told
abbrev pub Holds : (Names → Type 0) → Option Journal → Type 0
Holds Q told = WhereTold told (λ p. Q (names (world p)))

-- such changes keep it
abbrev pub IsKeptBy : (Entry → Type 0) → (Names → Type 0) → Type 0
IsKeptBy R Q = (q : Past) (e : Entry) → R e → Fits (world q) e → Q (names (world q)) → Q (names (world (q ▸ e)))

walk : (Q : Names → Type 0) (R : Entry → Type 0) → Stays Q → IsKeptBy R Q → (p q : Past) (es : List Entry) → Made p es q → Each R (filter is_change es) → Q (names (world p)) → Q (names (world q))
walk Q R stays kept p _ _ at_first a h = h
walk Q R stays kept p _ es (by_writer {q = q} {e = e} m w f) a h = stays (names (world q)) (names (world (q ▸ e))) (λ y. wrote_names q e y w) (walk Q R stays kept p q es m a h)
walk Q R stays kept p _ _ (by_tool {es = es} {q = q} {e = e} m t f) a h = go (λ b. walk Q R stays kept p q es m b h) (is_change e) refl a
  where
    go : (Each R (filter is_change es) → Q (names (world q))) → (b : Bool) → is_change e ≡ b → Each R (cond b (e ∷ filter is_change es) (filter is_change es)) → Q (names (world (q ▸ e)))
    go further true c a = kept q e a.0 f (further a.1)
    go further false c a = stays (names (world q)) (names (world (q ▸ e))) (λ y. inl (looked_names q e y t (no_disk_change e c))) (further a)

-- over calls
pub lasts : (Q : Names → Type 0) (R : Entry → Type 0) {P : List Entry → Type 0} {o n : Option Journal} → Stays Q → IsKeptBy R Q → Left P o n → ((ts : List Entry) → P ts → Each R (filter is_change ts)) → Holds Q o → Holds Q n
lasts Q R stays kept not_told f h = tt
lasts Q R stays kept (is_told {j = j} {k = k} {es = es} m l) f h = walk Q R stays kept (past j) (past k) es m
    (subst (Each R) (ap (filter is_change) (reverse-reverse es)) (subst (Each R) (sym (filter_reverse is_change (reverse es))) (each_reverse R (filter is_change (reverse es)) (f (reverse es) l)))) h

-- over quiet calls
pub lasts_quiet : (Q : Names → Type 0) {P : List Entry → Type 0} {o n : Option Journal} → Stays Q → Left P o n → ((ts : List Entry) → P ts → AreQuiet ts) → Holds Q o → Holds Q n
lasts_quiet Q stays left f h = lasts Q (λ e. ⊥) stays (λ q e none. absurd none) left (λ ts p. subst (Each (λ e. ⊥)) (sym (quiet_changes ts (f ts p))) tt) h

-- An entry among these says the fact of the moment of a disk that it was made at.
pub record Says (Q : Names → Type 0) (ts : List Entry) : Type 0 where
  pub entry : Entry
  pub among : IsIn entry ts
  pub so : (w : Past) → IsJournal w → Fits (world w) entry → Q (names (world w))

-- what one of quiet entries says is so behind them
pub said : (Q : Names → Type 0) {P : List Entry → Type 0} {o n : Option Journal} → Stays Q → WhereTold o IsJournal → Left P o n → ((ts : List Entry) → P ts → AreQuiet ts) → ((ts : List Entry) → P ts → Says Q ts) → Holds Q n
said Q stays disk not_told f g = tt
said Q stays disk (is_told {j = j} {k = k} {es = es} m l) f g =
    let s = g (reverse es) l in
    let t = moment IsAny (past j) (past k) s.entry es (since_any (past j) (past k) es m) m (still_in_order es (quiet_still (reverse es) (f (reverse es) l))) (from_reverse s.entry es s.among) in
    stays (names (world t.at)) (names (world (past k))) (quiet_more IsAny t.at (past k) t.until) (s.so t.at (quiet_disk (past j) t.at t.since disk) t.fits)
