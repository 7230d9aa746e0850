-- Facts of names that stay where files come, and what one entry does to them.
use Rattle.std.proofs.Common.{◌≡◌, ◌≢◌, ⊎_elim, sym, ◌∙◌, ap, subst, List, [], ◌∷◌, reverse, Option, Some, None}
use Rattle.std.specs.Prelude.{filter}
use Rattle.std.proofs.lemmas.List.{reverse-reverse}
use Rattle.lr_rules.specs.declared.path.Path.{Path}
use Rattle.lr_host.specs.declared.thing.Thing.{Thing}
use Rattle.lr_host.specs.declared.thing.Thing.TheVariants as thing
use Rattle.lr_host.specs.declared.entry.Entry.{Entry}
use Rattle.lr_host.specs.declared.journal.Journal.{Journal}
use Rattle.lr_host.specs.World.{Past, ◌▸◌, past, world, Names, names, put}
use Rattle.lr_host.specs.Fits.{Fits, IsFileAt, IsDirectoryAt}
use Rattle.lr_host.specs.Steps.{is_naming}
use Rattle.lr_host.specs.Told.{Made, at_first, by_writer, by_tool, Left, not_told, is_told, WhereTold}
use Rattle.lr_host.proofs.Each.{filter_reverse}
use Rattle.lr_host.proofs.Left.{still_walk}
use Rattle.lr_host.proofs.Looked.{nothing_no_dir, file_no_dir}
use Rattle.lr_host.proofs.More.{IsMore, wrote_names, file_same}
use Rattle.lr_host.proofs.Names.{put_other}

-- a fact that stays where files come
abbrev pub Stays : (Names → Type 0) → Type 0
Stays Q = (n n' : Names) → IsMore n n' → Q n → Q n'

-- entries by which no name goes
pub left_still : {P : List Entry → Type 0} {o m : Option Journal} (Q : Names → Type 0) → Stays Q → Left P o m → ((ts : List Entry) → P ts → filter is_naming ts ≡ []) → WhereTold o (λ p. Q (names (world p))) → WhereTold m (λ p. Q (names (world p)))
left_still Q stays not_told f h = tt
left_still Q stays (is_told {j = j} {k = k} {es = es} m l) f h = stays (names (world (past j))) (names (world (past k))) (still_walk (past j) (past k) es m (none (f (reverse es) l))) h
  where
    none : filter is_naming (reverse es) ≡ [] → filter is_naming es ≡ []
    none e = sym (reverse-reverse (filter is_naming es)) ∙ (ap reverse (sym (filter_reverse is_naming es) ∙ e))

pub one_walk : (Q R : Names → Type 0) → Stays Q → Stays R → (e : Entry) → ((r : Past) → Q (names (world r)) → Fits (world r) e → R (names (world (r ▸ e))))
    → (p q : Past) (es : List Entry) → Made p es q → es ≡ e ∷ [] → Q (names (world p)) → R (names (world q))
one_walk Q R sq sr e f p _ _ at_first is h = absurd (cc)
one_walk Q R sq sr e f p _ es (by_writer {q = q} {e = w} m i t) is h = sr (names (world q)) (names (world (q ▸ w))) (λ y. wrote_names q w y i) (one_walk Q R sq sr e f p q es m is h)
one_walk Q R sq sr e f p _ _ (by_tool {es = es} {q = q} {e = t} m i fits) is h =
    let same : e ≡ t = cc in
    let none : es ≡ [] = cc in
    subst (λ (s : Entry). R (names (world (q ▸ s)))) same (f q (sq (names (world p)) (names (world q)) (still_walk p q es m (ap (filter is_naming) none)) h) (subst (λ (s : Entry). Fits (world q) s) (sym same) fits))

-- one entry
pub left_one : {o m : Option Journal} (Q R : Names → Type 0) → Stays Q → Stays R → (e : Entry) → ((r : Past) → Q (names (world r)) → Fits (world r) e → R (names (world (r ▸ e))))
    → Left (λ ts. ts ≡ e ∷ []) o m → WhereTold o (λ p. Q (names (world p))) → WhereTold m (λ p. R (names (world p)))
left_one Q R sq sr e f not_told h = tt
left_one Q R sq sr e f (is_told {j = j} {k = k} {es = es} m l) h = one_walk Q R sq sr e f (past j) (past k) es m (sym (reverse-reverse es) ∙ ap reverse l) h

pub told_as : (Q R : Names → Type 0) (o : Option Journal) → ((n : Names) → Q n → R n) → WhereTold o (λ p. Q (names (world p))) → WhereTold o (λ p. R (names (world p)))
told_as Q R None f h = tt
told_as Q R (Some j) f h = f (names (world (past j))) h

pub told_both : (Q R : Names → Type 0) (o : Option Journal) → WhereTold o (λ p. Q (names (world p))) → WhereTold o (λ p. R (names (world p))) → WhereTold o (λ p. Q (names (world p)) × R (names (world p)))
told_both Q R None a b = tt
told_both Q R (Some j) a b = (a, b)

pub dir_more : (x : Path) → Stays (λ n. IsDirectoryAt n x)
dir_more x n n' more h = ⊎_elim (λ same. same ∙ h) (λ new. absurd (nothing_no_dir (n x) new.0 h)) (more x)

pub file_more : (x : Path) → Stays (λ n. IsFileAt n x)
file_more x n n' more h = (h.0, file_same n n' x more h ∙ h.1)

-- a directory stays where the name of a file changes
pub dir_put : (n : Names) (x y : Path) (t : Thing) → n x ≢ thing.Directory → IsDirectoryAt n y → IsDirectoryAt (put n x t) y
dir_put n x y t ne h = put_other n x y t (λ same. ne (subst (λ z. n z ≡ thing.Directory) same h)) ∙ h

pub file_put : (n : Names) (x y : Path) (t : Thing) → x ≢ y → IsFileAt n y → IsFileAt (put n x t) y
file_put n x y t ne h = (h.0, put_other n x y t (λ same. ne (sym same)) ∙ h.1)

pub no_dir : (n : Names) (x : Path) → IsFileAt n x → n x ≢ thing.Directory
no_dir n x f is = file_no_dir (n x) f.0 f.1 is
