-- The part file, while it gets the bytes of the log.
use Rattle.std.proofs.Common.{◌≡◌, ◌≢◌, ⊎_elim, ◌≤◌, ◌+◌, ℕ, Bool, cond, refl, sym, ◌∙◌, ap, subst, arith, List, [], ◌∷◌, ◌++◌, take, drop, length, reverse, append_assoc, append-nil}
use Rattle.std.proofs.Math.Seq.{drop-append_seam}
use Rattle.std.proofs.lemmas.List.{take-append-drop, length-append}
use Rattle.lr_rules.specs.declared.path.Path.{Path}
use Rattle.lr_host.specs.declared.thing.Thing.{Thing}
use Rattle.lr_host.specs.declared.thing.Thing.TheVariants as thing
use Rattle.lr_host.specs.declared.entry.Entry.{Entry}
use Rattle.lr_host.specs.declared.entry.Entry.TheVariants as entry
use Rattle.lr_host.specs.Fits.{Fits, GivesPiece, IsFileAt, IsPiece}
use Rattle.lr_host.specs.Opening.{IsJournal}
use Rattle.lr_host.specs.Quiet.{AttachedOnlySince, from_here, further}
use Rattle.lr_host.specs.Steady.{AttachesOnly}
use Rattle.lr_host.specs.Told.{Made, at_first, by_tool}
use Rattle.lr_host.specs.World.{Past, ◌▸◌, world, names}
use Rattle.lr_host.proofs.Made.{made_journal}
use Rattle.lr_host.proofs.Names.{put_cases, put_here}
use Rattle.lr_host.proofs.Places.{eq_same}
use Rattle.lr_copy.specs.Bytes.{Copying, none_read, read_more, took_more}
use Rattle.lr_laws.proofs.Lists.{at}
use Rattle.lr_laws.proofs.Parts.{named_drawn, held_drawn, IsOwn, own_append, own_waits, own_walk}
use Rattle.lr_laws_family.specs.Whole.{Has}
use Rattle.lr_laws_family.proofs.Logs.{log_walk}

-- The log's file has these bytes first; the part file, all of them but those that are owed.
pub record IsSoFar (from part : Path) (g h : ℕ) (bytes owed : List ℕ) (p : Past) : Type 0 where
  pub rest : List ℕ
  pub log : Has from g (bytes ++ rest) p
  pub taken : List ℕ
  pub same : taken ++ owed ≡ bytes
  pub own : IsOwn part h taken p

-- a file that was just made
pub made_own : (p : Past) (x : Path) (mode : _) → IsJournal p → IsOwn x (world p).drawn [] (p ▸ entry.Makes x mode)
made_own p x mode j = record {
  named = put_here (names (world p)) x x (thing.File (world p).drawn) refl;
  guarded = record {
    known = omega arith;
    only = λ y e. ⊎_elim (λ here. here.0) (λ old. absurd (let lt = named_drawn p y (world p).drawn j old.1 in omega (arith, lt))) (put_cases (names (world p)) x (thing.File (world p).drawn) y (thing.File (world p).drawn) e);
    unheld = λ v e. absurd (let lt = held_drawn p v (world p).drawn j e in omega (arith, lt));
    has = made_empty;
  };
}
  where
    made_empty : ((world (p ▸ entry.Makes x mode)).files (world p).drawn).bytes ≡ []
    made_empty = ap (λ (b : Bool). cond b [] ((world p).files (world p).drawn).bytes) (eq_same (world p).drawn)

-- what a read gives of bytes that were read up to there
read_rest : (bytes rest piece all : List ℕ) → all ≡ bytes ++ rest → IsPiece all (length bytes) piece → rest ≡ piece ++ drop (length piece) rest
read_rest bytes rest piece all is k =
    let behind : drop (length bytes) all ≡ rest = ap (drop (length bytes)) is ∙ drop-append_seam bytes rest in
    let first : piece ≡ take (length piece) rest = k.part ∙ ap (take (length piece)) behind in
    sym (take-append-drop (length piece) rest) ∙ ap (λ xs. xs ++ drop (length piece) rest) (sym first)

-- and where it gives nothing
pub read_none : (bytes rest all : List ℕ) → all ≡ bytes ++ rest → IsPiece all (length bytes) [] → all ≡ bytes
read_none bytes rest all is k =
    let long : length all ≡ length bytes + length rest = ap length is ∙ length-append bytes rest in
    let ended : length all ≤ length bytes = k.ended refl in
    is ∙ (ap (λ xs. bytes ++ xs) (empty rest (omega (arith, long, ended))) ∙ append-nil bytes)
  where
    empty : (xs : List ℕ) → length xs ≤ 0 → xs ≡ []
    empty [] le = refl
    empty (x ∷ xs) le = absurd (omega (arith, le))

-- an entry of the tool attaches nobody
pub only_self : (P : Path → Type 0) (p : Past) (e : Entry) → AttachesOnly P e → AttachedOnlySince P p (p ▸ e)
only_self P p e a = further from_here a

module _ (P : Path → Type 0) (from part : Path) (g h : ℕ) (far : (y : Path) → P y → y ≢ part) (apart : part ≢ from) where
  abbrev SoFar : List ℕ → List ℕ → Past → Type 0
  SoFar bytes owed p = IsSoFar from part g h bytes owed p

  -- what writers do between
  pub so_waits : (bytes owed : List ℕ) (p q : Past) → IsJournal p → Made p [] q → AttachedOnlySince P p q → SoFar bytes owed p → SoFar bytes owed q
  so_waits bytes owed p q j m only s =
      let r = log_walk from g (bytes ++ s.rest) p q [] j m tt s.log in record {
        rest = s.rest ++ r.later;
        log = record { named = r.has.named; bytes_are = r.has.bytes_are ∙ append_assoc bytes s.rest r.later };
        taken = s.taken;
        same = s.same;
        own = own_waits P part h far s.taken p q m only s.own;
      }

  -- a read
  so_read : (bytes piece : List ℕ) (p : Past) → Fits (world p) (entry.Reads from (length bytes) piece) → SoFar bytes [] p → SoFar (bytes ++ piece) piece (p ▸ entry.Reads from (length bytes) piece)
  so_read bytes piece p fits s =
      let gives : GivesPiece (world p) (thing.File g) (length bytes) piece = subst (λ (t : Thing). GivesPiece (world p) t (length bytes) piece) s.log.named fits in
      let is : s.rest ≡ piece ++ drop (length piece) s.rest = read_rest bytes s.rest piece ((world p).files g).bytes s.log.bytes_are gives in record {
        rest = drop (length piece) s.rest;
        log = record { named = s.log.named; bytes_are = s.log.bytes_are ∙ (ap (λ xs. bytes ++ xs) is ∙ sym (append_assoc bytes piece (drop (length piece) s.rest))) };
        taken = s.taken;
        same = ap (λ xs. xs ++ piece) (sym (append-nil s.taken) ∙ s.same);
        own = own_walk P part h far s.taken p (p ▸ entry.Reads from (length bytes) piece) (entry.Reads from (length bytes) piece ∷ []) (by_tool at_first tt fits) (only_self P p (entry.Reads from (length bytes) piece) tt) ((tt, refl), tt) s.own;
      }

  -- an append
  so_append : (bytes piece owed : List ℕ) (p : Past) → IsJournal p → Fits (world p) (entry.Appends part piece) → SoFar bytes (piece ++ owed) p → SoFar bytes owed (p ▸ entry.Appends part piece)
  so_append bytes piece owed p j fits s =
      let r = log_walk from g (bytes ++ s.rest) p (p ▸ entry.Appends part piece) (entry.Appends part piece ∷ []) j (by_tool at_first tt fits) ((apart, λ i. i), tt) s.log in record {
        rest = s.rest ++ r.later;
        log = record { named = r.has.named; bytes_are = r.has.bytes_are ∙ append_assoc bytes s.rest r.later };
        taken = s.taken ++ piece;
        same = append_assoc s.taken piece owed ∙ s.same;
        own = own_append P part h far s.taken piece p s.own;
      }

-- ---- from the make on

-- Nothing was read yet: the log needn't stand, and the part file is empty. Or something was.
pub data IsUnderWay (from part : Path) (h : ℕ) (bytes owed : List ℕ) (p : Past) : Type 0 where
  not_read : bytes ≡ [] → owed ≡ [] → IsOwn part h [] p → IsUnderWay from part h bytes owed p
  is_read : (g : ℕ) → IsSoFar from part g h bytes owed p → IsUnderWay from part h bytes owed p

-- what is read is a file
pub read_file : (p : Past) (x : Path) (k : ℕ) (piece : List ℕ) → Fits (world p) (entry.Reads x k piece) → IsFileAt (names (world p)) x
read_file p x k piece fits = go (names (world p) x) fits
  where
    go : (t : Thing) → GivesPiece (world p) t k piece → (g : ℕ) × (t ≡ thing.File g)
    go thing.Nothing fits = absurd fits
    go (thing.File g) fits = (g, refl)
    go thing.Directory fits = absurd fits
    go thing.Other fits = absurd fits

-- where the log is a file
pub so_far : (from part : Path) (h : ℕ) (bytes : List ℕ) (p : Past) → IsFileAt (names (world p)) from → IsUnderWay from part h bytes [] p → (g : ℕ) × IsSoFar from part g h bytes [] p
so_far from part h bytes p log (not_read none paid own) = (
  log.0,
  subst (λ (xs : List ℕ). IsSoFar from part log.0 h xs [] p) (sym none)
      (record { rest = ((world p).files log.0).bytes; log = record { named = log.1; bytes_are = refl }; taken = []; same = refl; own = own }),
)
so_far from part h bytes p log (is_read g s) = (g, s)

both_empty : (xs ys : List ℕ) → xs ++ ys ≡ [] → (xs ≡ []) × (ys ≡ [])
both_empty [] ys is = (refl, is)
both_empty (x ∷ xs) ys is = absurd (cc)

module _ (P : Path → Type 0) (from part : Path) (h : ℕ) (far : (y : Path) → P y → y ≢ part) (apart : part ≢ from) where
  abbrev Under : List ℕ → List ℕ → Past → Type 0
  Under bytes owed p = IsUnderWay from part h bytes owed p

  -- what writers do between
  under_waits : (bytes owed : List ℕ) (p q : Past) → IsJournal p → Made p [] q → AttachedOnlySince P p q → Under bytes owed p → Under bytes owed q
  under_waits bytes owed p q j m only (not_read none paid own) = not_read none paid (own_waits P part h far [] p q m only own)
  under_waits bytes owed p q j m only (is_read g s) = is_read g (so_waits P from part g h far apart bytes owed p q j m only s)

  -- a read
  under_read : (bytes piece : List ℕ) (p : Past) → Fits (world p) (entry.Reads from (length bytes) piece) → Under bytes [] p → Under (bytes ++ piece) piece (p ▸ entry.Reads from (length bytes) piece)
  under_read bytes piece p fits u = let l = so_far from part h bytes p (read_file p from (length bytes) piece fits) u in is_read l.0 (so_read P from part l.0 h far apart bytes piece p fits l.1)

  -- an append
  under_append : (bytes piece owed : List ℕ) (p : Past) → IsJournal p → Fits (world p) (entry.Appends part piece) → Under bytes (piece ++ owed) p → Under bytes owed (p ▸ entry.Appends part piece)
  under_append bytes piece owed p j fits (not_read none paid own) =
      let no_more = both_empty piece owed paid in
      not_read none no_more.1 (subst (λ (xs : List ℕ). IsOwn part h xs (p ▸ entry.Appends part piece)) no_more.0 (own_append P part h far [] piece p own))
  under_append bytes piece owed p j fits (is_read g s) = is_read g (so_append P from part g h far apart bytes piece owed p j fits s)

  -- the whole copying
  pub under_copies : (bytes owed : List ℕ) (ts : List Entry) → Copying from part bytes owed ts → (p q : Past) → IsJournal p → Made p (reverse ts) q → AttachedOnlySince P p q → IsOwn part h [] p → Under bytes owed q
  under_copies _ _ _ none_read p q j m only own = under_waits [] [] p q j m only (not_read refl refl own)
  under_copies _ _ _ (read_more {bytes = bytes} {ts = ts} c piece some short) p q j m only own =
      let e = entry.Reads from (length bytes) piece in
      let a = at P p q ts e [] tt m only in
      let k : IsJournal a.mid = made_journal p a.mid (reverse ts) a.first j in
      under_waits (bytes ++ piece) piece (a.mid ▸ e) q (made_journal a.mid (a.mid ▸ e) (e ∷ []) (by_tool at_first tt a.fits) k) a.second a.only_second
      (under_read bytes piece a.mid a.fits (under_copies bytes [] ts c p a.mid j a.first a.only_first own))
  under_copies bytes owed _ (took_more {ts = ts} piece _ c) p q j m only own =
      let e = entry.Appends part piece in
      let a = at P p q ts e [] tt m only in
      let k : IsJournal a.mid = made_journal p a.mid (reverse ts) a.first j in
      under_waits bytes owed (a.mid ▸ e) q (made_journal a.mid (a.mid ▸ e) (e ∷ []) (by_tool at_first tt a.fits) k) a.second a.only_second
      (under_append bytes piece owed a.mid k a.fits (under_copies bytes (piece ++ owed) ts c p a.mid j a.first a.only_first own))
