-- What the parts of a word leave, one after another.
use Rattle.std.proofs.Common.{◌≡◌, ℕ, ◌+◌, ◌<◌, List, [], ◌∷◌, ◌++◌, length, take, drop, get_or, refl, sym, ap, ◌∙◌, subst, add-one, drop-cons, Option}
use Rattle.std.specs.Prelude.{flat_map}
use Rattle.std.proofs.lemmas.List.{append-nil, take-append-drop}
use Rattle.std.proofs.lemmas.Grind.{flat_map-append}
use Rattle.lr_rules.specs.declared.path.Path.{Path}
use Rattle.lr_host.specs.declared.entry.Entry.{Entry}
use Rattle.lr_host.specs.declared.journal.Journal.{Journal}
use Rattle.lr_host.specs.Told.{Left}
use Rattle.lr_host.proofs.Left.{left_then, left_first}
use Rattle.lr_glob.specs.declared.found.GlobStop.{GlobStop}
use Rattle.lr_glob.specs.Rounds.{Round, round_entries, FollowsPart, Leads, there, on, Followed, Led}
use Rattle.lr_glob.specs.Stops.{NotFollowed, NotLed}

leads_more : (parts : List (List ℕ)) (start between paths : List Path) (rounds : List Round) (part : List ℕ) (round : Round) → Leads parts start rounds between → FollowsPart part between round paths → Leads (parts ++ part ∷ []) start (rounds ++ round ∷ []) paths
leads_more _ _ _ paths _ part round (there dirs) f = on part [] dirs paths paths round [] f (there paths)
leads_more _ _ _ paths _ part round (on p ps dirs next between r rs g l) f = on p (ps ++ part ∷ []) dirs next paths r (rs ++ round ∷ []) g (leads_more ps next between paths rs part round l f)

pub led_none : (dirs : List Path) (o : Option Journal) → Left (Led [] dirs dirs) o o
led_none dirs o = left_first (Led [] dirs dirs) o (record { rounds = []; leads = there dirs; entries = refl })

rounds_more : (rounds : List Round) (r : Round) (xs ys : List Entry) → xs ≡ flat_map round_entries rounds → ys ≡ round_entries r → xs ++ ys ≡ flat_map round_entries (rounds ++ r ∷ [])
rounds_more rounds r xs ys ex ey = ap (λ us. us ++ ys) ex ∙ (ap (λ us. flat_map round_entries rounds ++ us) (ey ∙ sym (append-nil (round_entries r))) ∙ sym (flat_map-append round_entries rounds (r ∷ [])))

pub led_more : (done all : List (List ℕ)) (part : List ℕ) (start between paths : List Path) {o m n : Option Journal} → all ≡ done ++ part ∷ [] → Left (Led done start between) o m → Left (Followed part between paths) m n → Left (Led all start paths) o n
led_more done all part start between paths e l k = left_then l k (λ xs ys h f. record {
  rounds = h.rounds ++ f.round ∷ [];
  leads = subst (λ ps. Leads ps start (h.rounds ++ f.round ∷ []) paths) (sym e) (leads_more done start between paths h.rounds part f.round h.leads f.follows);
  entries = rounds_more h.rounds f.round xs ys h.entries f.entries;
})

pub not_led : (done all rest : List (List ℕ)) (part : List ℕ) (start between : List Path) (why : GlobStop) {o m n : Option Journal} → all ≡ done ++ part ∷ rest → Left (Led done start between) o m → Left (NotFollowed part between why) m n → Left (NotLed all start why) o n
not_led done all rest part start between why e l k = left_then l k (λ xs ys h f. record {
  before = done;
  part = part;
  after = rest;
  between = between;
  each = e;
  entries = record { front = xs; back = ys; joined = refl; first = h; second = f };
})

-- a list, cut at a place
pub cut_at : (xs : List (List ℕ)) (i : ℕ) (x : List ℕ) → x ≡ get_or xs i x → i < length xs → xs ≡ take i xs ++ x ∷ drop (i + 1) xs
cut_at xs i x is lt =
    let behind : drop i xs ≡ get_or xs i x ∷ drop (i + 1) xs = rw (add-one, drop-cons xs i x) in
    sym (take-append-drop i xs) ∙ ap (λ ys. take i xs ++ ys) (behind ∙ ap (λ y. y ∷ drop (i + 1) xs) (sym is))
