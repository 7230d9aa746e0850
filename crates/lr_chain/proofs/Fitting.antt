-- The steps of a rotation fit one after another.
use Rattle.std.proofs.Common.{◌≡◌, ◌≢◌, ◌⊎◌, inl, inr, ℕ, suc, ◌+◌, ◌<◌, ◌≤◌, Bool, true, false, not, cond, bytes_eq, List, [], ◌∷◌, ◌++◌, map, reverse, None, refl, sym, ap, ◌∙◌, subst, append_assoc, arith}
use Rattle.std.specs.Prelude.{Contains}
use Rattle.std.proofs.lemmas.List.{reverse-append, append-nil}
use Rattle.lr_rules.specs.declared.path.Path.{Path}
use Rattle.lr_rules.specs.declared.rule.Count.{Count}
use Rattle.lr_rules.specs.declared.rule.Naming.{Naming}
use Rattle.lr_rules.specs.Path.{path_fault}
use Rattle.lr_host.specs.declared.thing.Thing.{Thing}
use Rattle.lr_host.specs.declared.thing.Thing.TheVariants as thing
use Rattle.lr_host.specs.declared.entry.Entry.{Entry}
use Rattle.lr_host.specs.declared.entry.Entry.TheVariants as entry
use Rattle.lr_host.specs.World.{Names, put, names_after}
use Rattle.lr_host.specs.Fits.{IsFileAt, IsDirectoryAt}
use Rattle.lr_host.specs.Told.{CanCall}
use Rattle.lr_host.specs.Steps.{changes_of, FitAll}
use Rattle.lr_host.proofs.Names.{put_other}
use Rattle.lr_family.specs.Kin.{IsKin}
use Rattle.lr_family.specs.Spots.{path_at}
use Rattle.lr_family.proofs.Numbers.{Every, Falls, every_as, every_filter, every_passes, every_from, falls_filter, in_or_not}
use Rattle.lr_family.proofs.Paths.{places_apart, log_apart, stands_in}
use Rattle.lr_chain.specs.Rotation.{is_left, leftovers, kept, retired, unlink_at, move_at, leftover_steps, turn_steps, retire_steps, rotation}
use Rattle.lr_chain.specs.Standing.{StandSo, AreGoing}
use Rattle.lr_chain.proofs.Bounds.{top_of}
use Rattle.lr_chain.proofs.Falling.{falls_all}
use Rattle.lr_chain.proofs.Kept.{kept_stay, kept_as}
use Rattle.lr_chain.proofs.Retired.{every_retired, retired_falls}
use Rattle.lr_chain.proofs.Turned.{run, Renamed, renamed_so, going_number, retired_numbers, stays_below}

-- the first of them first
abbrev FitOn : Names → List Entry → Type 0
FitOn m [] = Unit {0}
FitOn m (e ∷ es) = CanCall m e × FitOn (names_after m (changes_of (e ∷ []))) es

pub after_one : (m : Names) (done : List Entry) (e : Entry) → names_after (names_after m (changes_of done)) (changes_of (e ∷ [])) ≡ names_after m (changes_of (e ∷ done))
after_one m done (entry.Renames from to) = refl
after_one m done (entry.Unlinks x) = refl
after_one m done (entry.MakesDir x mode) = refl
after_one m done _ = refl

fit_behind : (m : Names) (done es : List Entry) → FitAll m done → FitOn (names_after m (changes_of done)) es → FitAll m (reverse es ++ done)
fit_behind m done [] fit on = fit
fit_behind m done (e ∷ es) fit on =
    subst (λ (xs : List Entry). FitAll m xs) (sym (ap (λ xs. xs ++ done) (reverse-append (e ∷ []) es) ∙ append_assoc (reverse es) (e ∷ []) done))
    (fit_behind m (e ∷ done) es (fit, on.0) (subst (λ (k : Names). FitOn k es) (after_one m done e) on.1))

fit_both : (m : Names) (es fs : List Entry) → FitOn m es → FitOn (run m es) fs → FitOn m (es ++ fs)
fit_both m [] fs on rest = rest
fit_both m (e ∷ es) fs on rest = (on.0, fit_both (names_after m (changes_of (e ∷ []))) es fs on.1 rest)

-- a file can be renamed there
abbrev IsFree : Names → Path → Type 0
IsFree m x = (m x ≢ thing.Directory) × (m x ≢ thing.Other)

abbrev IsPlain : Thing → Type 0
IsPlain t = (t ≢ thing.Directory) × (t ≢ thing.Other)

free_put : (m : Names) (x : Path) (t : Thing) (y : Path) → IsPlain t → IsFree m y → IsFree (put m x t) y
free_put m x t y s f = go (bytes_eq x y)
  where
    go : (b : Bool) → IsPlain (cond b t (m y))
    go true = s
    go false = f

nothing_plain : IsPlain thing.Nothing
nothing_plain = ((λ e. cc), (λ e. cc))

file_plain : (t : Thing) (g : ℕ) → t ≡ thing.File g → IsPlain t
file_plain t g e = ((λ d. cc), (λ d. cc))

module _ (log : Path) (n : Naming) (kin : IsKin log n) (numbered : n.dated ≡ None) (dir_path : path_fault n.dir ≡ None) where
  abbrev IsNumber : ℕ → Type 0
  IsNumber k = n.start + k ≤ 4294967295

  -- what stands for a turn to come
  record Free (m : Names) : Type 0 where
    free : (k : ℕ) → IsNumber k → IsFree m (path_at n k)
    log_file : IsFileAt m log
    dir : IsDirectoryAt m n.dir

  abbrev Stand : Names → List ℕ → Type 0
  Stand m ks = Every (λ k. IsFileAt m (path_at n k)) ks

  file_put : (m : Names) (p k : ℕ) (t : Thing) → IsNumber p → IsNumber k → (k ≡ p → ⊥) → IsFileAt m (path_at n k) → IsFileAt (put m (path_at n p) t) (path_at n k)
  file_put m p k t i j ne f = (f.0, put_other m (path_at n p) (path_at n k) t (λ e. ne (places_apart n k p j i e)) ∙ f.1)

  files_put : (m : Names) (p : ℕ) (t : Thing) (ks : List ℕ) → IsNumber p → Every IsNumber ks → Every (λ k. k ≡ p → ⊥) ks → Stand m ks → Stand (put m (path_at n p) t) ks
  files_put m p t [] i js nes fs = tt
  files_put m p t (k ∷ ks) i js nes fs = (file_put m p k t i js.0 nes.0 fs.0, files_put m p t ks i js.1 nes.1 fs.1)

  free_on : (m : Names) (p : ℕ) (t : Thing) → IsNumber p → IsPlain t → Free m → Free (put m (path_at n p) t)
  free_on m p t i s r = record {
    free = λ k j. free_put m (path_at n p) t (path_at n k) s (r.free k j);
    log_file = (r.log_file.0, put_other m (path_at n p) log t (log_apart log n p kin numbered i) ∙ r.log_file.1);
    dir = put_other m (path_at n p) n.dir t (λ e. (r.free p i).0 (ap m (sym e) ∙ r.dir)) ∙ r.dir;
  }

  unlinks_fit : (m : Names) (c : Count) (ls ms : List ℕ) (rest : List Entry) → Every IsNumber ls → Every IsNumber ms → Falls ls → Every (λ l. is_left c l ≡ true) ls → Every (λ k. is_left c k ≡ false) ms → Free m → Stand m ls → Stand m ms
      → ((m' : Names) → Free m' → Stand m' ms → FitOn m' rest) → FitOn m (map (unlink_at n) ls ++ rest)
  unlinks_fit m c [] ms rest il im falls high low r fl fm then = then m r fm
  unlinks_fit m c (l ∷ ls) ms rest il im falls high low r fl fm then = (
    fl.0,
    unlinks_fit (put m (path_at n l) thing.Nothing) c ls ms rest il.1 im falls.1 high.1 low (free_on m l thing.Nothing il.0 nothing_plain r)
        (files_put m l thing.Nothing ls il.0 il.1 (every_as (λ k. k < l) (λ k. k ≡ l → ⊥) ls (λ k lt e. omega (arith, lt, e)) falls.0) fl.1)
        (files_put m l thing.Nothing ms il.0 im (every_as (λ k. is_left c k ≡ false) (λ k. k ≡ l → ⊥) ms (λ k stays e. other k stays e) low) fm) then,
  )
    where
      other : (k : ℕ) → is_left c k ≡ false → k ≡ l → ⊥
      other k stays e = let t : is_left c k ≡ true = ap (is_left c) e ∙ high.0 in cc

  moves_fit : (m : Names) (ms : List ℕ) (rest : List Entry) → Every IsNumber ms → Every (λ k. IsNumber (k + 1)) ms → Falls ms → Free m → Stand m ms
      → ((m' : Names) → Free m' → FitOn m' rest) → FitOn m (map (move_at n) ms ++ rest)
  moves_fit m [] rest im next falls r fm then = then m r
  moves_fit m (p ∷ ms) rest im next falls r fm then = (
    (
      fm.0,
      (r.free (p + 1) next.0).0,
      (r.free (p + 1) next.0).1,
      ap m (stands_in log n (p + 1) kin dir_path next.0) ∙ r.dir,
      λ e. let same : p ≡ p + 1 = places_apart n p (p + 1) im.0 next.0 e in omega (arith, same),
    ),
    moves_fit (put gone (path_at n (p + 1)) (m (path_at n p))) ms rest im.1 next.1 falls.1 (free_on gone (p + 1) (m (path_at n p)) next.0 there (free_on m p thing.Nothing im.0 nothing_plain r))
        (files_put gone (p + 1) (m (path_at n p)) ms next.0 im.1 (every_as (λ k. k < p) (λ k. k ≡ p + 1 → ⊥) ms (λ k lt e. omega (arith, lt, e)) falls.0)
        (files_put m p thing.Nothing ms im.0 im.1 (every_as (λ k. k < p) (λ k. k ≡ p → ⊥) ms (λ k lt e. omega (arith, lt, e)) falls.0) fm.1)) then,
  )
    where
      there : IsPlain (m (path_at n p))
      there = file_plain (m (path_at n p)) fm.0.0 fm.0.1

      gone : Names
      gone = put m (path_at n p) thing.Nothing

  log_fits : (m : Names) → IsNumber 0 → Free m → CanCall m (entry.Renames log (path_at n 0))
  log_fits m first r = (r.log_file, (r.free 0 first).0, (r.free 0 first).1, ap m (stands_in log n 0 kin dir_path first) ∙ r.dir, log_apart log n 0 kin numbered first)

  -- the leftovers' unlinks, the moves and the log's rename
  turn_fits : (m : Names) (c : Count) (places : List ℕ) → IsNumber 0 → Falls places → Every IsNumber places → Every (λ k. IsNumber (k + 1)) (kept c places) → Free m → Stand m places
      → FitOn m (leftover_steps n c places ++ turn_steps n c log places)
  turn_fits m c places first falls within next r stand =
      unlinks_fit m c (leftovers c places) (kept c places) (turn_steps n c log places)
      (every_filter IsNumber (is_left c) places within) (every_filter IsNumber (λ k. not (is_left c k)) places within) (falls_filter (is_left c) places falls)
      (every_passes (is_left c) places) (kept_stay c places) r
      (every_filter (λ k. IsFileAt m (path_at n k)) (is_left c) places stand) (every_filter (λ k. IsFileAt m (path_at n k)) (λ k. not (is_left c k)) places stand)
      (λ m' r' stand'. moves_fit m' (kept c places) (entry.Renames log (path_at n 0) ∷ [])
      (every_filter IsNumber (λ k. not (is_left c k)) places within) next (falls_filter (λ k. not (is_left c k)) places falls) r' stand' (λ m'' r''. (log_fits m'' first r'', tt)))

  -- the unlinks behind them: each of the files stands until its own
  retire_fits : (m : Names) (ls : List ℕ) → Every IsNumber ls → Falls ls → Stand m ls → FitOn m (map (unlink_at n) ls)
  retire_fits m [] is falls stand = tt
  retire_fits m (l ∷ ls) is falls stand = (
    stand.0,
    retire_fits (put m (path_at n l) thing.Nothing) ls is.1 falls.1
        (files_put m l thing.Nothing ls is.0 is.1 (every_as (λ k. k < l) (λ k. k ≡ l → ⊥) ls (λ k lt e. omega (arith, lt, e)) falls.0) stand.1),
  )

  free_so : (m : Names) (places : List ℕ) → IsDirectoryAt m n.dir → StandSo log n places m → Free m
  free_so m places dir s = record { free = λ k i. go k i (in_or_not places k); log_file = s.log_file; dir = dir }
    where
      go : (k : ℕ) → IsNumber k → Contains places k ⊎ (Contains places k → ⊥) → IsFree m (path_at n k)
      go k i (inl c) = let f = s.members k c in file_plain (m (path_at n k)) f.0 f.1
      go k i (inr none) = ((λ e. let t = s.others k i none in cc), (λ e. let t = s.others k i none in cc))

  -- the whole rotation fits
  pub rotation_fits : (m : Names) (c : Count) (places from : List ℕ) → IsNumber (top_of n c) → Falls places → Every IsNumber places → Every (λ k. is_left c k ≡ false → IsNumber (k + 1)) places
      → AreGoing c places from → IsDirectoryAt m n.dir → StandSo log n places m → FitAll m (reverse (rotation n c log places from))
  rotation_fits m c places from small falls within next going dir s =
      subst (λ (xs : List Entry). FitAll m xs) (append-nil (reverse (rotation n c log places from)))
      (fit_behind m [] (rotation n c log places from) tt
      (subst (λ (es : List Entry). FitOn m es) (append_assoc (leftover_steps n c places) (turn_steps n c log places) (retire_steps n c from))
      (fit_both m (leftover_steps n c places ++ turn_steps n c log places) (retire_steps n c from)
      (turn_fits m c places (omega (arith, small)) falls within (kept_as (λ k. IsNumber (k + 1)) c places next) (free_so m places dir s) (every_from (λ k. IsFileAt m (path_at n k)) places s.members))
      (retire_fits behind (retired c from) (retired_numbers log n kin numbered c places from small next going) (retired_falls c from (falls_all from going.falling)) stand))))
    where
      behind : Names
      behind = run m (leftover_steps n c places ++ turn_steps n c log places)

      so : Renamed log n kin numbered c m behind
      so = renamed_so log n kin numbered m c places small falls within next s

      came : (k : ℕ) → Contains from k → IsFileAt behind (path_at n (suc k))
      came k h =
          let i = going_number log n kin numbered c places from next going k h in
          let f = s.members k (going.there k h) in
          (f.0, so.up k (omega (arith, i)) (stays_below log n kin numbered c k (going.moved k h) i) ∙ f.1)

      stand : Stand behind (retired c from)
      stand = every_retired (λ k. IsFileAt behind (path_at n k)) c from (every_from (λ k. IsFileAt behind (path_at n (suc k))) from came) (λ e. (s.log_file.0, so.first ∙ s.log_file.1))
