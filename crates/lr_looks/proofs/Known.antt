-- The listings that were taken, and their places.
use Rattle.std.proofs.Common.{◌≡◌, ℕ, zero, suc, Bool, true, false, cond, List, [], ◌∷◌, ◌++◌, length, Option, Some, None, slice_get, refl, sym, ap, ◌∙◌, subst, ⊎_elim}
use Rattle.std.specs.Str.{bytes_eq}
use Rattle.std.proofs.lemmas.Slice.Eq.{bytes_eq-Decides}
use Rattle.lr_rules.specs.declared.path.Path.{Path}
use Rattle.lr_host.specs.declared.journal.Journal.{Journal}
use Rattle.lr_host.specs.Told.{Left}
use Rattle.lr_host.proofs.Left.{left_as, left_first}
use Rattle.lr_family.specs.declared.listing.Listing.{Listing}
use Rattle.lr_family.specs.declared.stand.StandStop.{StandStop}
use Rattle.lr_family.specs.Listed.{ShowsListing, NotListed}
use Rattle.lr_kept.specs.Begun.{Found, place_in}
use Rattle.lr_kept.proofs.Elements.{read_push_cases}
use Rattle.lr_looks.specs.Families.{WasListed, WasNotListed}
use Rattle.lr_looks.specs.Internal.{ArePlaces, TakesListing, before, taken, LacksListing, IsListedAt, NoListing, lacks, unadded}
use Rattle.lr_family.specs.declared.stand.StandStop.TheVariants as stop

pub read_last : (xs : List Listing) (y : Listing) → slice_get (xs ++ y ∷ []) (length xs) ≡ Some y
read_last [] y = refl
read_last (x ∷ xs) y = read_last xs y

pub read_before : (xs : List Listing) (y x : Listing) (k : ℕ) → slice_get xs k ≡ Some x → slice_get (xs ++ y ∷ []) k ≡ Some x
read_before [] y x zero h = absurd (cc h)
read_before [] y x (suc k) h = absurd (cc h)
read_before (z ∷ xs) y x zero h = h
read_before (z ∷ xs) y x (suc k) h = read_before xs y x k h

pub places_more : (known : List Listing) (l : Listing) (old new : List ℕ → Option ℕ) → ArePlaces known old → ((q : List ℕ) → new q ≡ cond (bytes_eq q l.dir) (Some (length known)) (old q)) → ArePlaces (known ++ l ∷ []) new
places_more known l old new so is = record { there = λ dir i e. there_by dir i (bytes_eq dir l.dir) refl (sym (is dir) ∙ e); none = λ dir e x w. none_by dir (bytes_eq dir l.dir) refl (sym (is dir) ∙ e) x w }
  where
    there_by : (dir : List ℕ) (i : ℕ) (b : Bool) → bytes_eq dir l.dir ≡ b → cond (bytes_eq dir l.dir) (Some (length known)) (old dir) ≡ Some i → (x : Listing) × (slice_get (known ++ l ∷ []) i ≡ Some x) × (x.dir ≡ dir)
    there_by dir i true b e =
        let at : Some (length known) ≡ Some i = subst (λ c. cond c (Some (length known)) (old dir) ≡ Some i) b e in
        let n : length known ≡ i = cc at in
        (l, subst (λ k. slice_get (known ++ l ∷ []) k ≡ Some l) n (read_last known l), sym ((bytes_eq-Decides dir l.dir).0 b))
    there_by dir i false b e =
        let h = so.there dir i (subst (λ c. cond c (Some (length known)) (old dir) ≡ Some i) b e) in
        (h.0, read_before known l h.0 i h.1, h.2)

    none_by : (dir : List ℕ) (b : Bool) → bytes_eq dir l.dir ≡ b → cond (bytes_eq dir l.dir) (Some (length known)) (old dir) ≡ None → (x : Listing) → WasListed (known ++ l ∷ []) dir x → ⊥
    none_by dir true b e x w = let at : Some (length known) ≡ None = subst (λ c. cond c (Some (length known)) (old dir) ≡ None) b e in absurd (cc at)
    none_by dir false b e x w = ⊎_elim
        (λ (h : slice_get known w.place ≡ Some x). so.none dir (subst (λ c. cond c (Some (length known)) (old dir) ≡ None) b e) x (record { place = w.place; there = h; same = w.same }))
        (λ (h : (w.place ≡ length known) × (x ≡ l)). let alike : dir ≡ l.dir = sym w.same ∙ ap (λ (y : Listing). y.dir) h.1 in let yes : bytes_eq dir l.dir ≡ true = (bytes_eq-Decides dir l.dir).1 alike in absurd (cc (yes, b)))
        (read_push_cases known l x w.place w.there)

pub none_new : (known : List Listing) (dir dir' : Path) → dir' ≡ dir → WasNotListed known dir → WasNotListed known dir'
none_new known dir dir' e h = subst (WasNotListed known) (sym e) h

pub was_before : (known : List Listing) (places : List ℕ → Option ℕ) (dir : Path) (place : ℕ) {o : Option Journal} → ArePlaces known places → Some place ≡ places dir → Left (TakesListing known dir known place) o o
was_before known places dir place so e = let h = so.there dir place (sym e) in left_first (TakesListing known dir known place) _ (before h.0 h.1 h.2 refl refl)

pub taken_now : (known after : List Listing) (dir : Path) (place : ℕ) (l : Listing) {o n : Option Journal} → WasNotListed known dir → l.dir ≡ dir → after ≡ known ++ l ∷ [] → place ≡ length known → Left (ShowsListing dir l.there l.parent l.names) o n
    → Left (TakesListing known dir after place) o n
taken_now known after dir place l new e a p left = left_as left (λ ts s. taken l new e a p s)

pub lacks_one : (known : List Listing) (dir : Path) (why : StandStop) {o n : Option Journal} → WasNotListed known dir → Left (NotListed dir why) o n → Left (LacksListing known dir why known) o n
lacks_one known dir why new left = left_as left (λ ts s. record { not_before = new; same = refl; shown = s })

pub part_one : (known : List Listing) (dir : Path) (why : StandStop) {o n : Option Journal} → WasNotListed known dir → Left (NotListed dir why) o n → Left (NoListing known dir why) o n
part_one known dir why new left = left_as left (λ ts s. lacks new s)

pub part_unadded : (known : List Listing) (dir : Path) (l : Listing) {o n : Option Journal} → WasNotListed known dir → l.dir ≡ dir → Left (ShowsListing dir l.there l.parent l.names) o n → Left (NoListing known dir stop.Memory) o n
part_unadded known dir l new e left = left_as left (λ ts s. unadded l refl new e s)

pub at_end : (known after : List Listing) (dir : Path) (place : ℕ) (l : Listing) → l.dir ≡ dir → after ≡ known ++ l ∷ [] → place ≡ length known → IsListedAt after place dir
at_end known after dir place l e a p = (l, subst (λ (ls : List Listing). slice_get ls place ≡ Some l) (sym a) (subst (λ (k : ℕ). slice_get (known ++ l ∷ []) k ≡ Some l) (sym p) (read_last known l)), e)

pub at_before : (known : List Listing) (places : List ℕ → Option ℕ) (dir : Path) (place : ℕ) → ArePlaces known places → Some place ≡ places dir → IsListedAt known place dir
at_before known places dir place so e = so.there dir place (sym e)

pub none_listed : (dir : Path) (l : Listing) → WasListed [] dir l → ⊥
none_listed dir l w = absurd (cc w.there)

pub places_none : (known : List Listing) (found : List Found) → known ≡ [] → found ≡ [] → ArePlaces known (place_in found)
places_none known found e f = subst (λ (ls : List Listing). ArePlaces ls (place_in found)) (sym e) (subst (λ (fs : List Found). ArePlaces [] (place_in fs)) (sym f) (record { there = λ dir i h. absurd (cc h); none = λ dir h. none_listed dir }))
