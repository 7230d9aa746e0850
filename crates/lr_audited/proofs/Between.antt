-- Places that are told, one more each.
use Rattle.std.proofs.Common.{◌≡◌, ◌<◌, ◌≤◌, ◌+◌, ◌-◌, min, ℕ, zero, suc, List, [], ◌∷◌, ◌++◌, length, take, drop, map, get_or, refl, sym, ap, ◌∙◌, arith, append_assoc}
use Rattle.std.specs.List.{range_with_len}
use Rattle.std.proofs.Math.Seq.{drop-cons}
use Rattle.std.proofs.lemmas.List.{append-nil, drop_all, map-append}
use Rattle.lr_rules.specs.declared.path.Path.{Path}
use Rattle.lr_family.specs.declared.stand.Member.{Member}
use Rattle.lr_family.specs.Stands.{number_in}
use Rattle.lr_audited.specs.Gaps.{places_between, gap_at}

range_snoc : (a n : ℕ) → range_with_len a (suc n) ≡ range_with_len a n ++ ((a + n) ∷ [])
range_snoc a zero = ap (λ (b : ℕ). b ∷ []) (let e : a ≡ a + 0 = omega arith in e)
range_snoc a (suc n) = ap (λ (xs : List ℕ). a ∷ xs) (range_snoc (a + 1) n ∙ ap (λ (b : ℕ). range_with_len (a + 1) n ++ b ∷ []) (let e : a + 1 + n ≡ a + suc n = omega arith in e))

pub places_more : (log : Path) (from at : ℕ) (start before after : List (Path × ℕ)) → before ≡ start ++ map (gap_at log) (range_with_len from at) → after ≡ before ++ (log, from + at) ∷ [] → after ≡ start ++ map (gap_at log) (range_with_len from (at + 1))
places_more log from at start before after so more =
    more ∙ (ap (λ (xs : List (Path × ℕ)). xs ++ (log, from + at) ∷ []) so
    ∙ (append_assoc start (map (gap_at log) (range_with_len from at)) ((log, from + at) ∷ [])
    ∙ ap (λ (xs : List (Path × ℕ)). start ++ xs) (sym (map-append (gap_at log) (range_with_len from at) ((from + at) ∷ []))
    ∙ ap (map (gap_at log)) (sym (range_snoc from at) ∙ ap (range_with_len from) (let e : suc at ≡ at + 1 = omega arith in e)))))

-- the first of so many places, and then of the others
take_range : (a n left : ℕ) (rest : List ℕ) → take left (range_with_len a n ++ rest) ≡ range_with_len a (min n left) ++ take (left - min n left) rest
take_range a zero left rest =
    let none : min zero left ≡ 0 = omega arith in
    ap (λ (k : ℕ). take k rest) (let e : left ≡ left - min zero left = omega arith in e) ∙ ap (λ (k : ℕ). range_with_len a k ++ take (left - min zero left) rest) (sym none)
take_range a (suc n) zero rest =
    ap (λ (k : ℕ). range_with_len a k ++ take (zero - k) rest) (let e : 0 ≡ min (suc n) zero = omega arith in e)
take_range a (suc n) (suc left) rest =
    ap (λ (xs : List ℕ). a ∷ xs) (take_range (a + 1) n left rest ∙ ap (λ (k : ℕ). range_with_len (a + 1) (min n left) ++ take k rest) (let e : left - min n left ≡ suc left - suc (min n left) = omega arith in e))
    ∙ ap (λ (k : ℕ). range_with_len a k ++ take (suc left - k) rest) (let e : suc (min n left) ≡ min (suc n) (suc left) = omega arith in e)

pub gaps_more : (log : Path) (members : List Member) (i : ℕ) (m : Member) (from left count : ℕ) (gaps after whole : List (Path × ℕ)) → m ≡ get_or members i m → i < length members → count ≡ min (number_in m.place - from) left
    → after ≡ gaps ++ map (gap_at log) (range_with_len from count) → gaps ++ map (gap_at log) (take left (places_between from (drop i members))) ≡ whole
    → after ++ map (gap_at log) (take (left - count) (places_between (number_in m.place + 1) (drop (i + 1) members))) ≡ whole
gaps_more log members i m from left count gaps after whole is lt many more so =
    ap (λ (xs : List (Path × ℕ)). xs ++ map (gap_at log) rest) more
    ∙ (append_assoc gaps (map (gap_at log) (range_with_len from count)) (map (gap_at log) rest)
    ∙ (ap (λ (xs : List (Path × ℕ)). gaps ++ xs) (sym (map-append (gap_at log) (range_with_len from count) rest) ∙ ap (map (gap_at log)) (sym parts)) ∙ so))
  where
    rest : List ℕ
    rest = take (left - count) (places_between (number_in m.place + 1) (drop (i + 1) members))

    next : drop i members ≡ m ∷ drop (i + 1) members
    next = drop-cons members i m lt ∙ (ap (λ (x : Member). x ∷ drop (suc i) members) (sym is) ∙ ap (λ (k : ℕ). m ∷ drop k members) (let e : suc i ≡ i + 1 = omega arith in e))

    parts : take left (places_between from (drop i members)) ≡ range_with_len from count ++ rest
    parts = ap (λ (ms : List Member). take left (places_between from ms)) next
        ∙ (take_range from (number_in m.place - from) left (places_between (suc (number_in m.place)) (drop (i + 1) members))
        ∙ (ap (λ (k : ℕ). range_with_len from k ++ take (left - k) (places_between (suc (number_in m.place)) (drop (i + 1) members))) (sym many)
        ∙ ap (λ (k : ℕ). range_with_len from count ++ take (left - count) (places_between k (drop (i + 1) members))) (let e : suc (number_in m.place) ≡ number_in m.place + 1 = omega arith in e)))

take_none : (left : ℕ) → ◌≡◌ {A = List ℕ} (take left []) []
take_none zero = refl
take_none (suc left) = refl

pub gaps_end : (log : Path) (members : List Member) (i from left : ℕ) (gaps whole : List (Path × ℕ)) → length members ≤ i → gaps ++ map (gap_at log) (take left (places_between from (drop i members))) ≡ whole → gaps ≡ whole
gaps_end log members i from left gaps whole le so =
    sym (append-nil gaps) ∙ (ap (λ (xs : List ℕ). gaps ++ map (gap_at log) xs) (sym (ap (λ (ms : List Member). take left (places_between from ms)) (drop_all i members le) ∙ take_none left)) ∙ so)
