-- What a visit leaves.
use Rattle.std.proofs.Common.{◌≡◌, ℕ, Bool, true, false, cond, List, [], ◌∷◌, ◌++◌, length, drop, refl, sym, ap, ◌∙◌, Option, Some, None, Result, Ok, Err}
use Rattle.std.specs.Prelude.{IfOk, IfErr}
use Rattle.lr_rules.specs.declared.path.Path.{Path}
use Rattle.lr_host.specs.declared.thing.Seen.{Seen}
use Rattle.lr_host.specs.declared.entry.Entry.{Entry}
use Rattle.lr_host.specs.declared.entry.Entry.TheVariants as entry
use Rattle.lr_host.specs.declared.journal.Journal.{Journal}
use Rattle.lr_host.specs.Told.{Left, Are, Can}
use Rattle.lr_host.specs.World.{world, names}
use Rattle.lr_host.specs.Looks.{Sees, IsDir, is_dir}
use Rattle.lr_host.proofs.Left.{left_as, left_then}
use Rattle.lr_host.proofs.Known.{entry_says}
use Rattle.lr_host.proofs.Looked.{seen_dir}
use Rattle.lr_host.proofs.Looking.{dir_kind, is_a_dir}
use Rattle.lr_glob.specs.declared.visit.VisitStop.{VisitStop}
use Rattle.lr_glob.specs.declared.visit.VisitStop.TheVariants as visit
use Rattle.lr_glob.specs.Listing.{Lists, IsFailed}
use Rattle.lr_glob.specs.Visits.{Visited}
use Rattle.lr_glob.specs.Stops.{NotVisited}

-- what was seen as a directory may be listed
pub can_list : (x : Path) (look : Option Seen) {o n : Option Journal} → Left (λ ts. ts ≡ entry.Look x look ∷ []) o n → is_dir look ≡ true → Can n (entry.List x [])
can_list x None l h = absurd (cc)
can_list x (Some seen) l h = entry_says l (λ w f. seen_dir (world w) (names (world w) x) seen f (dir_kind seen.kind h))

-- a list to which nothing stood before
pub listed_all : (dir : Path) (old now : List (List ℕ)) {o n : Option Journal} → old ≡ [] → Left (λ ts. ts ≡ entry.List dir (drop (length old) now) ∷ []) o n → Left (Lists dir now) o n
listed_all dir old now none l = left_as l (λ ts e. e ∙ ap (λ (old : List (List ℕ)). entry.List dir (drop (length old) now) ∷ []) none)

both_parts : (dir : Path) (names : List (List ℕ)) (xs ys : List Entry) → Sees dir (λ seen. is_dir seen ≡ true) xs → Lists dir names ys → Visited dir names (xs ++ ys)
both_parts dir names xs ys s l = record {
  visit = record { dir = dir; seen = s.seen; listed = names };
  at = refl;
  names_are = ap (λ b. cond b names []) s.is;
  entries = ap (λ us. us ++ ys) s.look ∙ ap (λ us. entry.Look dir s.seen ∷ us) (l ∙ sym (ap (λ b. cond b (entry.List dir names ∷ []) []) s.is));
}

pub visited_dir : {T : Type 0} (items : T → List (List ℕ)) (dir : Path) (r : Result T VisitStop) {o m : Option Journal} (n : Option Journal) → Left (Sees dir (λ seen. is_dir seen ≡ true)) o m → IfOk r (λ l. Left (Lists dir (items l)) m n) → IfOk r (λ l. Left (Visited dir (items l)) o n)
visited_dir items dir (Ok l) n s h = left_then s h (both_parts dir (items l))
visited_dir items dir (Err e) n s h = tt

pub visited_other : (dir : Path) (names : List (List ℕ)) {o n : Option Journal} → names ≡ [] → Left (Sees dir (λ seen. is_dir seen ≡ false)) o n → Left (Visited dir names) o n
visited_other dir names none l = left_as l (λ ts s. record {
  visit = record { dir = dir; seen = s.seen; listed = names };
  at = refl;
  names_are = ap (λ b. cond b names []) s.is ∙ sym none;
  entries = s.look ∙ ap (λ us. entry.Look dir s.seen ∷ us) (sym (ap (λ b. cond b (entry.List dir names ∷ []) []) s.is));
})

sees_dir : (dir : Path) (xs ys : List Entry) → Sees dir (λ seen. is_dir seen ≡ true) xs → ys ≡ [] → Sees dir IsDir (xs ++ ys)
sees_dir dir xs ys s e = record { seen = s.seen; is = is_a_dir s.seen s.is; look = ap (λ us. us ++ ys) s.look ∙ ap (λ us. entry.Look dir s.seen ∷ us) e }

broken : (dir : Path) (why : VisitStop) (xs ys : List Entry) → IsFailed why → Sees dir (λ seen. is_dir seen ≡ true) xs → ys ≡ [] → NotVisited dir why (xs ++ ys)
broken dir visit.Look xs ys f s e = absurd f
broken dir visit.List xs ys f s e = sees_dir dir xs ys s e
broken dir visit.Memory xs ys f s e = sees_dir dir xs ys s e

pub not_listed : {T : Type 0} (dir : Path) (r : Result T VisitStop) {o m : Option Journal} (n : Option Journal) → Left (Sees dir (λ seen. is_dir seen ≡ true)) o m → IfErr r IsFailed → IfErr r (λ why. Left (Are []) m n) → IfErr r (λ why. Left (NotVisited dir why) o n)
not_listed dir (Ok l) n s f h = tt
not_listed dir (Err why) n s f h = left_then s h (λ xs ys p e. broken dir why xs ys f p e)

pub seen_as : (dir : Path) (b c : Bool) {o n : Option Journal} → b ≡ c → Left (Sees dir (λ seen. is_dir seen ≡ b)) o n → Left (Sees dir (λ seen. is_dir seen ≡ c)) o n
seen_as dir b c e l = left_as l (λ ts s. record { seen = s.seen; is = s.is ∙ e; look = s.look })
