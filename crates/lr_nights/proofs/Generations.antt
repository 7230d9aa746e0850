-- Which files are generations, as a journal goes on.
use Rattle.std.proofs.Common.{◌≡◌, inl, inr, ⊎_elim, ℕ, Bool, true, false, cond, ◌||◌, ◌&&◌, List, [], ◌∷◌, refl, sym, ◌∙◌, ap, subst, Option, Some, None, ℤ, bytes_eq}
use Rattle.std.specs.Prelude.{◌↔◌, is_some}
use Rattle.std.specs.List.{list_any}
use Rattle.std.proofs.lemmas.Slice.Eq.{bytes_eq-Decides}
use Rattle.std.proofs.lemmas.Bool.{or_cases, or_left, or_right, and_parts, and_from}
use Rattle.lr_rules.specs.declared.path.Path.{Path}
use Rattle.lr_host.specs.declared.thing.Thing.{Thing}
use Rattle.lr_host.specs.declared.thing.Thing.TheVariants as thing
use Rattle.lr_host.specs.declared.journal.Opening.{Opening}
use Rattle.lr_host.specs.declared.entry.Entry.{Entry}
use Rattle.lr_host.specs.declared.entry.Entry.TheVariants as entry
use Rattle.lr_host.specs.Lists.{IsIn, AreDistinct, IsNotIn}
use Rattle.lr_host.specs.World.{World, Names, Past, Opens, ◌▸◌, world, names, effect, is_file, opening_names}
use Rattle.lr_host.specs.Released.{IsUnnamed}
use Rattle.lr_host.specs.Sets.{LogSet, in_set}
use Rattle.lr_host.specs.Later.{stood, WasMember, IsGeneration}
use Rattle.lr_host.proofs.Looked.{is_file_true, true_is_file}
use Rattle.lr_family.specs.declared.family.Family.{Family}
use Rattle.lr_disk.specs.Pairs.{keys}
use Rattle.lr_disk.specs.Names.{named_in}
use Rattle.lr_nights.specs.Summary.{AreSetsOf, logs_of, in_one, IsGenerationOfOne}
use Rattle.lr_nights.specs.Marks.{is_a_log, is_of_logs, has_name}
use Rattle.lr_nights.specs.Walk.{may_rename}
use Rattle.lr_nights.proofs.Lists.{any_in, any_from}

-- ---- what is named

-- a file that a path names stands in a pair
pub named_pair : (ns : List (Path × Thing)) (x : Path) (g : ℕ) → named_in ns x ≡ thing.File g → IsIn (x, thing.File g) ns
named_pair [] x g h = absurd (cc)
named_pair (n ∷ ns) x g h = go (bytes_eq n.0 x) refl h (named_pair ns x g)
  where
    go : (b : Bool) → bytes_eq n.0 x ≡ b → cond b n.1 (named_in ns x) ≡ thing.File g → (named_in ns x ≡ thing.File g → IsIn (x, thing.File g) ns) → IsIn (x, thing.File g) (n ∷ ns)
    go true e f later = let same : n.0 ≡ x = (bytes_eq-Decides n.0 x).0 e in inl (ap (λ (y : Path). (y, n.1)) same ∙ ap (λ (t : Thing). (x, t)) f)
    go false e f later = inr (later f)

not_key : (ns : List (Path × Thing)) (n : Path × Thing) (x : Path) → IsNotIn x (keys ns) → IsIn n ns → x ≡ n.0 → ⊥
not_key [] n x out h e = h
not_key (m ∷ ms) n x out (inl f) e = out.0 (e ∙ sym (ap (λ (q : Path × Thing). q.0) f))
not_key (m ∷ ms) n x out (inr h) e = not_key ms n x out.1 h e

-- and each pair tells what its path names
pub pair_named : (ns : List (Path × Thing)) (n : Path × Thing) → AreDistinct (keys ns) → IsIn n ns → named_in ns n.0 ≡ n.1
pair_named [] n once h = absurd h
pair_named (m ∷ ms) n once (inl f) = subst (λ (q : Path × Thing). cond (bytes_eq m.0 q.0) m.1 (named_in ms q.0) ≡ q.1) f (ap (λ (b : Bool). cond b m.1 (named_in ms m.0)) ((bytes_eq-Decides m.0 m.0).1 refl))
pair_named (m ∷ ms) n once (inr h) = go (bytes_eq m.0 n.0) refl (pair_named ms n once.1 h)
  where
    go : (b : Bool) → bytes_eq m.0 n.0 ≡ b → named_in ms n.0 ≡ n.1 → cond b m.1 (named_in ms n.0) ≡ n.1
    go true e later = absurd (not_key ms n m.0 once.0 h ((bytes_eq-Decides m.0 n.0).0 e))
    go false e later = later

-- what the pairs say is what names say
pub record AreNames (ns : List (Path × Thing)) (n : Names) : Type 0 where
  pub once : AreDistinct (keys ns)
  pub named : (x : Path) → named_in ns x ≡ n x

pub in_pairs : (ns : List (Path × Thing)) (n : Names) → AreNames ns n → (x : Path) (g : ℕ) → n x ≡ thing.File g → IsIn (x, thing.File g) ns
in_pairs ns n are x g h = named_pair ns x g (are.named x ∙ h)

pub from_pair : (ns : List (Path × Thing)) (n : Names) → AreNames ns n → (q : Path × Thing) → IsIn q ns → n q.0 ≡ q.1
from_pair ns n are q h = sym (are.named q.0) ∙ pair_named ns q are.once h

-- no pair has the file exactly where no path names it
pub unnamed_is : (ns : List (Path × Thing)) (n : Names) → AreNames ns n → (g : ℕ) → (has_name ns g ≡ false) ↔ IsUnnamed n g
unnamed_is ns n are g = (
  (λ none x h. let some : has_name ns g ≡ true = any_from (λ (q : Path × Thing). is_file q.1 g) ns (x, thing.File g) (in_pairs ns n are x g h) (true_is_file (thing.File g) g refl) in let no : false ≡ true = sym none ∙ some in absurd (cc)),
  (λ none. go (has_name ns g) refl none),
)
  where
    go : (b : Bool) → has_name ns g ≡ b → IsUnnamed n g → has_name ns g ≡ false
    go false e none = e
    go true e none = let r = any_in (λ (q : Path × Thing). is_file q.1 g) ns e in absurd (none r.0.0 (from_pair ns n are r.0 r.1 ∙ is_file_true r.0.1 g r.2))

-- ---- at the opening

-- a file of the set at the opening is a generation
found : (s : LogSet) (o : Opening) (x : Path) (g : ℕ) → in_set s x ≡ true → opening_names o x ≡ thing.File g → IsGeneration s (Opens o) g
found s o x g h e = ⊎_elim
    (λ log. let same : s.log ≡ x = (bytes_eq-Decides s.log x).0 log in inl (true_is_file (opening_names o s.log) g (ap (opening_names o) same ∙ e)))
    (λ some. inr (member (s.key x) refl some))
    (or_cases (bytes_eq s.log x) (is_some (s.key x)) h)
  where
    member : (k : Option ℤ) → s.key x ≡ k → is_some k ≡ true → WasMember s o g
    member (Some k) f i = record { at = x; key = k; member = f; named = e }
    member None f i = absurd (cc)

-- and each generation is such a file
lost : (s : LogSet) (o : Opening) (g : ℕ) → IsGeneration s (Opens o) g → (x : Path) × (in_set s x ≡ true) × (opening_names o x ≡ thing.File g)
lost s o g (inl h) = (s.log, or_left (bytes_eq s.log s.log) (is_some (s.key s.log)) ((bytes_eq-Decides s.log s.log).1 refl), is_file_true (opening_names o s.log) g h)
lost s o g (inr m) = (m.at, or_right (bytes_eq s.log m.at) (is_some (s.key m.at)) (ap is_some m.member), m.named)

pub first_generations : (sets : List LogSet) (o : Opening) (ns : List (Path × Thing)) → AreNames ns (opening_names o) → (g : ℕ) → (is_of_logs sets ns g ≡ true) ↔ IsGenerationOfOne sets (Opens o) g
first_generations sets o ns are g = (
  (λ h.
      let r = any_in (λ (n : Path × Thing). in_one sets n.0 && is_file n.1 g) ns h in
      let b = and_parts (in_one sets r.0.0) (is_file r.0.1 g) r.2 in
      let s = any_in (λ (s : LogSet). in_set s r.0.0) sets b.0 in
      record { set = s.0; one = s.1; generation = found s.0 o r.0.0 g s.2 (from_pair ns (opening_names o) are r.0 r.1 ∙ is_file_true r.0.1 g b.1) }),
  (λ i.
      let r = lost i.set o g i.generation in
      any_from (λ (n : Path × Thing). in_one sets n.0 && is_file n.1 g) ns (r.0, thing.File g) (in_pairs ns (opening_names o) are r.0 g r.2) (and_from (in_one sets r.0) (is_file (thing.File g) g) (any_from (λ (s : LogSet). in_set s r.0) sets i.set i.one r.1) (true_is_file (thing.File g) g refl))),
)

-- ---- behind an entry

pub log_files : (logs : List Family) (sets : List LogSet) (w : World) (g : ℕ) → AreSetsOf (logs_of logs) sets → is_a_log w logs g ≡ list_any (λ (s : LogSet). is_file (names w s.log) g) sets
log_files [] [] w g are = refl
log_files [] (s ∷ sets) w g are = absurd are
log_files (f ∷ fs) [] w g are = absurd are
log_files (f ∷ fs) (s ∷ sets) w g are =
    ap (λ (x : Path). is_file (names w x) g || is_a_log w fs g) (sym are.0.0) ∙ ap (λ (b : Bool). is_file (names w s.log) g || b) (log_files fs sets w g are.1)

-- one entry more: the files that logs name behind it are generations too
pub generations_on : (logs : List Family) (sets : List LogSet) (p : Past) (e : Entry) (g : ℕ) (a b : Bool) → AreSetsOf (logs_of logs) sets → (a ≡ true) ↔ IsGenerationOfOne sets p g → b ≡ (a || is_a_log (world (p ▸ e)) logs g) → (b ≡ true) ↔ IsGenerationOfOne sets (p ▸ e) g
generations_on logs sets p e g a b are old new = (
  (λ h. ⊎_elim
      (λ was. let i = old.0 was in record { set = i.set; one = i.one; generation = onward i.set i.generation })
      (λ log. let r = any_in here sets (sym (log_files logs sets (world (p ▸ e)) g are) ∙ log) in record { set = r.0; one = r.1; generation = inl (or_right (stood r.0 p g) (here r.0) r.2) })
      (or_cases a (is_a_log (world (p ▸ e)) logs g) (sym new ∙ h))),
  (λ i. new ∙ back i.set i.one i.generation),
)
  where
    here : LogSet → Bool
    here s = is_file (names (world (p ▸ e)) s.log) g

    onward : (s : LogSet) → IsGeneration s p g → IsGeneration s (p ▸ e) g
    onward s (inl h) = inl (or_left (stood s p g) (here s) h)
    onward s (inr m) = inr m

    was : (s : LogSet) → IsIn s sets → IsGeneration s p g → (a || is_a_log (world (p ▸ e)) logs g) ≡ true
    was s one h = or_left a (is_a_log (world (p ▸ e)) logs g) (old.1 (record { set = s; one = one; generation = h }))

    back : (s : LogSet) → IsIn s sets → IsGeneration s (p ▸ e) g → (a || is_a_log (world (p ▸ e)) logs g) ≡ true
    back s one (inr m) = was s one (inr m)
    back s one (inl h) = ⊎_elim
        (λ st. was s one (inl st))
        (λ log. or_right a (is_a_log (world (p ▸ e)) logs g) (log_files logs sets (world (p ▸ e)) g are ∙ any_from here sets s one log))
        (or_cases (stood s p g) (here s) h)

-- what the log names now it named at some prefix
stands_stood : (s : LogSet) (p : Past) (g : ℕ) → is_file (names (world p) s.log) g ≡ true → stood s p g ≡ true
stands_stood s (Opens o) g h = h
stands_stood s (p ▸ e) g h = or_right (stood s p g) (is_file (names (world (p ▸ e)) s.log) g) h

names_still : (w : World) (e : Entry) (x : Path) → may_rename e ≡ false → names (effect w e) x ≡ names w x
names_still w (entry.Attach writer y at) x h = absurd (cc)
names_still w (entry.Renames from to) x h = absurd (cc)
names_still w (entry.Makes y mode) x h = absurd (cc)
names_still w (entry.Unlinks y) x h = absurd (cc)
names_still w (entry.SyncsDir y) x h = absurd (cc)
names_still w (entry.MakesDir y mode) x h = absurd (cc)
names_still w (entry.Cut kept lengths) x h = absurd (cc)
names_still w _ x h = refl

-- an entry that changes no names makes no generation
pub generations_still : (sets : List LogSet) (p : Past) (e : Entry) (g : ℕ) (a : Bool) → may_rename e ≡ false → (a ≡ true) ↔ IsGenerationOfOne sets p g → (a ≡ true) ↔ IsGenerationOfOne sets (p ▸ e) g
generations_still sets p e g a still old = (
  (λ h. let i = old.0 h in record { set = i.set; one = i.one; generation = onward i.set i.generation }),
  (λ i. old.1 (record { set = i.set; one = i.one; generation = back i.set i.generation })),
)
  where
    onward : (s : LogSet) → IsGeneration s p g → IsGeneration s (p ▸ e) g
    onward s (inl h) = inl (or_left (stood s p g) (is_file (names (world (p ▸ e)) s.log) g) h)
    onward s (inr m) = inr m

    back : (s : LogSet) → IsGeneration s (p ▸ e) g → IsGeneration s p g
    back s (inr m) = inr m
    back s (inl h) = inl (⊎_elim
        (λ st. st)
        (λ log. stands_stood s p g (ap (λ (t : Thing). is_file t g) (sym (names_still (world p) e s.log still)) ∙ log))
        (or_cases (stood s p g) (is_file (names (world (p ▸ e)) s.log) g) h))
