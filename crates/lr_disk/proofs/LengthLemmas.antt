-- The lengths that a cut may give files.
use Rattle.std.proofs.Common.{◌≡◌, ℕ, ◌<◌, ◌≤◌, Bool, true, false, cond, ◌||◌, List, [], ◌∷◌, length, refl, sym, ap, subst, ◌∙◌, bytes_eq}
use Rattle.std.proofs.lemmas.Bool.{or_right, or_left}
use Rattle.lr_rules.specs.declared.path.Path.{Path}
use Rattle.lr_host.specs.declared.thing.Thing.{Thing}
use Rattle.lr_host.specs.declared.thing.Thing.TheVariants as thing
use Rattle.lr_host.specs.Lists.{AreDistinct}
use Rattle.lr_host.specs.World.{World, Names, names_kept, is_file, IsClosed}
use Rattle.lr_host.specs.Below.{NamesBelow}
use Rattle.lr_host.specs.Fits.{IsNamed, AreLengths, LengthsDiffer, AreRising, IsCut}
use Rattle.lr_host.proofs.Closed.{eq_true}
use Rattle.lr_host.proofs.Looked.{is_file_true, true_is_file, nothing_no_file}
use Rattle.lr_disk.specs.declared.state.State.{State}
use Rattle.lr_disk.specs.declared.file.MemFile.{MemFile}
use Rattle.lr_disk.specs.Pairs.{keys}
use Rattle.lr_disk.specs.Names.{named_in}
use Rattle.lr_disk.specs.State.{ShowsWorld}
use Rattle.lr_disk.specs.Lengths.{has_file, names_left, MayKeep, AreWithin}
use Rattle.lr_disk.proofs.StateLemmas.{left_names, left_below}
use Rattle.lr_disk.proofs.PairLemmas.{valued_has}
use Rattle.lr_disk.proofs.ListingLemmas.{or_cases, later_value}

-- names that agree
abbrev pub Agree : Names → Names → Type 0
Agree n m = (x : Path) → n x ≡ m x

pub has_named : (ns : List (Path × Thing)) (id : ℕ) → AreDistinct (keys ns) → has_file ns id ≡ true → IsNamed (named_in ns) id
has_named [] id once h = absurd (cc)
has_named (n ∷ ns) id once h =
    or_cases (is_file n.1 id) (has_file ns id) (IsNamed (named_in (n ∷ ns)) id) h
    (λ t. (n.0, ap (λ b. cond b n.1 (named_in ns n.0)) (eq_true n.0 n.0 refl) ∙ is_file_true n.1 id t))
    (λ t. there (has_named ns id once.1 t))
  where
    there : IsNamed (named_in ns) id → IsNamed (named_in (n ∷ ns)) id
    there f = (f.0, later_value ns n f.0 once.0 (valued_has bytes_eq thing.Nothing ns f.0 (λ none. nothing_no_file (named_in ns f.0) id none f.1)) ∙ f.1)

pub named_has : (ns : List (Path × Thing)) (id : ℕ) (x : Path) → named_in ns x ≡ thing.File id → has_file ns id ≡ true
named_has [] id x e = absurd (cc)
named_has (n ∷ ns) id x e = go (bytes_eq n.0 x) e (named_has ns id x)
  where
    go : (b : Bool) → cond b n.1 (named_in ns x) ≡ thing.File id → (named_in ns x ≡ thing.File id → has_file ns id ≡ true) → (is_file n.1 id || has_file ns id) ≡ true
    go true e f = or_left (is_file n.1 id) (has_file ns id) (true_is_file n.1 id e)
    go false e f = or_right (is_file n.1 id) (has_file ns id) (f e)

named_agree : (n m : Names) (g : ℕ) → Agree n m → IsNamed n g → IsNamed m g
named_agree n m g same f = (f.0, sym (same f.0) ∙ f.1)

pub within_alike : (fs : List MemFile) (n m : Names) (ls : List (ℕ × ℕ)) → Agree n m → AreWithin fs n ls → AreWithin fs m ls
within_alike fs n m [] same a = tt
within_alike fs n m (l ∷ ls) same a = ((named_agree n m l.0 same a.0.0, a.0.1, a.0.2), within_alike fs n m ls same a.1)

-- what the state has of lengths is what its world has
pub within_lengths : (s : State) (w : World) (n m : Names) (ls : List (ℕ × ℕ)) → ShowsWorld s w → NamesBelow w.drawn m → Agree n m → AreWithin s.files.items n ls → AreLengths w m ls
within_lengths s w n m [] shows below same a = tt
within_lengths s w n m (l ∷ ls) shows below same a =
    let named = named_agree n m l.0 same a.0.0 in
    let is = shows.files l.0 (below named.0 l.0 named.1) in
    (named, subst (λ f. f.synced ≤ l.1) is a.0.1, subst (λ f. l.1 ≤ length f.bytes) is a.0.2, within_lengths s w n m ls shows below same a.1)

pub lengths_within : (s : State) (w : World) (n m : Names) (ls : List (ℕ × ℕ)) → ShowsWorld s w → NamesBelow w.drawn m → Agree n m → AreLengths w m ls → AreWithin s.files.items n ls
lengths_within s w n m [] shows below same a = tt
lengths_within s w n m (l ∷ ls) shows below same a =
    let is = shows.files l.0 (below a.0.0 l.0 a.0.1) in
    ((named_agree m n l.0 (λ x. sym (same x)) a.0, subst (λ f. f.synced ≤ l.1) (sym is) a.1, subst (λ f. l.1 ≤ length f.bytes) (sym is) a.2), lengths_within s w n m ls shows below same a.3)

-- which cuts are allowed, by the state
pub left_in : (s : State) (w : World) (kept : List ℕ) → ShowsWorld s w → NamesBelow (length s.files.items) (names_left s kept)
left_in s w kept shows x g e = subst (λ n. g < n) (sym shows.drawn) (left_below w kept shows.below_durable shows.below_pending x g (sym (left_names s w kept shows x) ∙ e))

pub cut_allowed : (s : State) (w : World) (kept : List ℕ) (ls : List (ℕ × ℕ)) → ShowsWorld s w → MayKeep kept s.tree.changes.items → LengthsDiffer ls → AreWithin s.files.items (names_left s kept) ls → IsCut w kept ls
cut_allowed s w kept ls shows keeps apart within = record {
  places = subst (λ cs. AreRising 0 kept (length cs)) shows.changes keeps.0;
  closed = subst (IsClosed kept) shows.changes keeps.1;
  apart = apart;
  within = within_lengths s w (names_left s kept) (names_kept w kept) ls shows (left_below w kept shows.below_durable shows.below_pending) (left_names s w kept shows) within;
}

pub cut_keeps : (s : State) (w : World) (kept : List ℕ) (ls : List (ℕ × ℕ)) → ShowsWorld s w → IsCut w kept ls → MayKeep kept s.tree.changes.items
cut_keeps s w kept ls shows cut = (subst (λ cs. AreRising 0 kept (length cs)) (sym shows.changes) cut.places, subst (IsClosed kept) (sym shows.changes) cut.closed)

pub cut_within : (s : State) (w : World) (kept : List ℕ) (ls : List (ℕ × ℕ)) → ShowsWorld s w → IsCut w kept ls → AreWithin s.files.items (names_left s kept) ls
cut_within s w kept ls shows cut = lengths_within s w (names_left s kept) (names_kept w kept) ls shows (left_below w kept shows.below_durable shows.below_pending) (left_names s w kept shows) cut.within
