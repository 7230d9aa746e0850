-- What a visit leaves.
use Rattle.std.proofs.Common.{◌≡◌, inl, inr, ℕ, Bool, List, [], ◌∷◌, ◌++◌, refl, sym, ap, ◌∙◌, subst, append-nil, Option, Some, Result, Ok, Err, OnErr}
use Rattle.std.specs.Prelude.{IfOk}
use Rattle.lr_rules.specs.declared.path.Path.{Path}
use Rattle.lr_host.specs.declared.thing.Kind.TheVariants as kind
use Rattle.lr_host.specs.declared.thing.Seen.{Seen}
use Rattle.lr_host.specs.declared.entry.Entry.TheVariants as entry
use Rattle.lr_host.specs.declared.journal.Journal.{Journal}
use Rattle.lr_host.specs.World.{world, names}
use Rattle.lr_host.specs.Told.{Left, Are, Can}
use Rattle.lr_host.specs.Looks.{Sees, IsDir, IsNothingOrOther}
use Rattle.lr_host.proofs.Left.{left_as, left_then}
use Rattle.lr_host.proofs.Known.{entry_says}
use Rattle.lr_host.proofs.Looked.{seen_dir}
use Rattle.lr_include.specs.declared.visit.Visit.{Visit}
use Rattle.lr_include.specs.declared.visit.Visit.TheVariants as visit
use Rattle.lr_include.specs.Visits.{IsKeptFile, IsExposedFile, ShowsDir, ShowsFile, ShowsVisit, look_failed, nothing, exposed, directory, file, PartFile, PartVisit}

-- what was seen as a directory may be listed
pub can_list : (x : Path) (seen : Seen) {o n : Option Journal} → Left (λ ts. ts ≡ entry.Look x (Some seen) ∷ []) o n → seen.kind ≡ kind.Dir → Can n (entry.List x [])
can_list x seen l k = entry_says l (λ w f. seen_dir (world w) (names (world w) x) seen f k)

-- ---- visits

pub in_dir : (x : Path) (lists : Bool) (room : Option ℕ) {E : Type 0} (r : Result Visit E) {o m : Option Journal} (n : Option Journal) → Left (Sees x IsDir) o m → IfOk r (λ v. Left (ShowsDir x lists v) m n) → IfOk r (λ v. Left (ShowsVisit x lists room v) o n)
in_dir x lists room (Ok v) n s l = left_then s l (λ xs ys p q. directory (record { front = xs; back = ys; joined = refl; first = p; second = q }))
in_dir x lists room (Err e) n s l = tt

pub in_file : (x : Path) (lists : Bool) (room : Option ℕ) {E : Type 0} (r : Result Visit E) {o m : Option Journal} (n : Option Journal) → Left (Sees x IsKeptFile) o m → IfOk r (λ v. Left (ShowsFile x room v) m n) → IfOk r (λ v. Left (ShowsVisit x lists room v) o n)
in_file x lists room (Ok v) n s l = left_then s l (λ xs ys p q. file (record { front = xs; back = ys; joined = refl; first = p; second = q }))
in_file x lists room (Err e) n s l = tt

pub dir_lacking : (x : Path) (room : Option ℕ) {T E : Type 0} (r : Result T E) {o m : Option Journal} (n : Option Journal) → Left (Sees x IsDir) o m → OnErr r (Left (Are []) m n) → OnErr r (Left (PartVisit x room) o n)
dir_lacking x room (Ok v) n s l = tt
dir_lacking x room (Err e) n s l = left_then s l (λ xs ys p q. inr (inl (subst (Sees x IsDir) (sym (append-nil xs) ∙ ap (λ us. xs ++ us) (sym q)) p)))

pub file_lacking : (x : Path) (room : Option ℕ) {T E : Type 0} (r : Result T E) {o m : Option Journal} (n : Option Journal) → Left (Sees x IsKeptFile) o m → OnErr r (Left (PartFile x room) m n) → OnErr r (Left (PartVisit x room) o n)
file_lacking x room (Ok v) n s l = tt
file_lacking x room (Err e) n s l = left_then s l (λ xs ys p q. inr (inr (record { front = xs; back = ys; joined = refl; first = p; second = q })))

pub sees_nothing : (x : Path) (lists : Bool) (room : Option ℕ) {o n : Option Journal} → Left (Sees x IsNothingOrOther) o n → Left (ShowsVisit x lists room visit.Nothing) o n
sees_nothing x lists room l = left_as l (λ ts s. nothing refl s)

pub sees_exposed : (x : Path) (lists : Bool) (room : Option ℕ) {o n : Option Journal} → Left (Sees x IsExposedFile) o n → Left (ShowsVisit x lists room visit.Exposed) o n
sees_exposed x lists room l = left_as l (λ ts s. exposed refl s)

pub unseen : (x : Path) (lists : Bool) (room : Option ℕ) {o n : Option Journal} → Left (Are []) o n → Left (ShowsVisit x lists room visit.Unseen) o n
unseen x lists room l = left_as l (λ ts e. look_failed refl e)
