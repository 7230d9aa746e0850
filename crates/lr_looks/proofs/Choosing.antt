-- Choices, one log behind another.
use Rattle.std.proofs.Common.{◌≡◌, ◌≤◌, ◌<◌, ◌+◌, ℕ, Bool, true, List, [], ◌∷◌, ◌++◌, length, map, take, get_or, refl, sym, ap, ◌∙◌, subst, arith, append_assoc}
use Rattle.std.specs.List.{flat_map}
use Rattle.std.specs.Borrow.{Bor}
use Rattle.std.proofs.lemmas.Grind.{flat_map-append}
use Rattle.std.proofs.lemmas.List.Elements.{All-cons, All-nil}
use Rattle.std.proofs.lemmas.List.{append-nil, length-append, length-map, length-take-le, map-append, take_more}
use Rattle.std.proofs.lemmas.Option.{slice_get-get_or, slice_get_within}
use Rattle.lr_rules.specs.declared.fault.Fault.{Fault}
use Rattle.lr_rules.specs.declared.path.Path.{Path}
use Rattle.lr_rules.specs.declared.rule.Naming.{Naming}
use Rattle.lr_rules.specs.Limits.{is_format, or_none}
use Rattle.lr_host.proofs.Lists.{grown}
use Rattle.lr_family.specs.declared.family.Family.{Family}
use Rattle.lr_kept.specs.declared.choice.Choice.{Choice}
use Rattle.lr_kept.specs.declared.choice.Choice.TheVariants.{Kept, Again, MemberOf, Reserved, Meets}
use Rattle.lr_kept.specs.Chosen.{IsChoice, HasFormat, HaveFormats}
use Rattle.lr_looks.specs.declared.found.Found.{Found}
use Rattle.lr_looks.specs.Choices.{chosen_names, found_names, is_wild, choice_fault, choice_faults, where_kept, kept_of, IsChoiceAmong}
use Rattle.lr_looks.specs.Found.{FoundLog, found_in, all_found_in, HaveLogPaths}
use Rattle.lr_looks.specs.Internal.{IsWithinCounts, AreWithinCounts}

-- ---- choices name logs of the list

is_within : (logs : List (Bor Family)) (wild : List Bool) (reserved : List Path) (choices : List Choice) (k n : ℕ) (c : Choice) → length logs ≡ n → k < n → IsChoice logs wild reserved choices k c → IsWithinCounts (length reserved) n c
is_within logs wild reserved choices k n Kept many lt h = record {}
is_within logs wild reserved choices k n (Again i) many lt h = let b : i < k = h.before in omega (arith, b)
is_within logs wild reserved choices k n (MemberOf i) many lt h = subst (λ m. i < m) many (slice_get_within logs i h.is.member.one h.is.member.at_one)
is_within logs wild reserved choices k n (Reserved i) many lt h = slice_get_within reserved i h.has.path h.has.at_path
is_within logs wild reserved choices k n (Meets i) many lt h = let b : i < k = h.before in omega (arith, b)

pub as_many : (reserved : List Path) (found : List Found) (choices : List Choice) → IsChoiceAmong reserved (all_found_in found) choices → length choices ≡ length found
as_many reserved found choices c = c.chosen.as_many ∙ (sym (length-map c.logs chosen_names) ∙ (ap length c.same ∙ (length-map (all_found_in found) found_names ∙ length-map found found_in)))

pub are_within : (reserved : List Path) (found : List Found) (choices : List Choice) → IsChoiceAmong reserved (all_found_in found) choices → AreWithinCounts (length reserved) (length found) choices
are_within reserved found choices c = λ k d lt.
    let many : length choices ≡ length found = as_many reserved found choices c in
    is_within c.logs (map is_wild (all_found_in found)) reserved choices k (length found) (get_or choices k d) (sym c.chosen.as_many ∙ many) (omega (arith, many)) (c.chosen.each k (get_or choices k d) (slice_get-get_or choices k d lt))

-- ---- formats of dates

pub have_formats : (bs : List (Bor Family)) (fs : List FoundLog) → map chosen_names bs ≡ map found_names fs → HaveLogPaths fs → HaveFormats bs
have_formats [] fs e h = All-nil (λ (b : Bor Family). HasFormat b.now)
have_formats (b ∷ bs) [] e h = absurd (cc e)
have_formats (b ∷ bs) (f ∷ fs) e h =
    let one : chosen_names b ≡ found_names f = cc e in
    let rest : map chosen_names bs ≡ map found_names fs = cc e in
    All-cons (λ (b : Bor Family). HasFormat b.now) b bs (subst (λ (p : Path × Naming). or_none is_format p.1.dated ≡ true) (sym one) h.0.format) (have_formats bs fs rest h.1)

-- ---- one log more

faults_on : (reserved : List Path) (all xs ys : List FoundLog) (cs ds : List Choice) → length cs ≡ length xs → choice_faults reserved all (xs ++ ys) (cs ++ ds) ≡ choice_faults reserved all xs cs ++ choice_faults reserved all ys ds
faults_on reserved all [] ys [] ds e = refl
faults_on reserved all [] ys (c ∷ cs) ds e = absurd (omega (arith, e))
faults_on reserved all (x ∷ xs) ys [] ds e = absurd (omega (arith, e))
faults_on reserved all (x ∷ xs) ys (c ∷ cs) ds e = ap (λ fs. choice_fault reserved all x c ++ fs) (faults_on reserved all xs ys cs ds (omega (arith, e))) ∙ sym (append_assoc (choice_fault reserved all x c) (choice_faults reserved all xs cs) (choice_faults reserved all ys ds))

kept_on : (xs ys : List FoundLog) (cs ds : List Choice) → length cs ≡ length xs → kept_of (xs ++ ys) (cs ++ ds) ≡ kept_of xs cs ++ kept_of ys ds
kept_on [] ys [] ds e = refl
kept_on [] ys (c ∷ cs) ds e = absurd (omega (arith, e))
kept_on (x ∷ xs) ys [] ds e = absurd (omega (arith, e))
kept_on (x ∷ xs) ys (c ∷ cs) ds e = ap (λ fs. where_kept x c ++ fs) (kept_on xs ys cs ds (omega (arith, e))) ∙ sym (append_assoc (where_kept x c) (kept_of xs cs) (kept_of ys ds))

length_taken : {A B : Type 0} (xs : List A) (ys : List B) (n : ℕ) → n ≤ length xs → n ≤ length ys → length (take n xs) ≡ length (take n ys)
length_taken xs ys n a b = length-take-le n xs a ∙ sym (length-take-le n ys b)

pub faults_more : (reserved : List Path) (all : List FoundLog) (found : List Found) (choices : List Choice) (at : ℕ) (item : Found) (choice : Choice) (start now next : List Fault) → length choices ≡ length found → at < length found → item ≡ get_or found at item → choice ≡ get_or choices at Kept
    → now ≡ start ++ choice_faults reserved all (all_found_in (take at found)) (take at choices) → next ≡ now ++ choice_fault reserved all (found_in item) choice
    → next ≡ start ++ choice_faults reserved all (all_found_in (take (at + 1) found)) (take (at + 1) choices)
faults_more reserved all found choices at item choice start now next many lt e f h g = grown start now next _ (choice_fault reserved all (found_in item) choice) _ h g
    (ap (λ xs. choice_faults reserved all (all_found_in xs) (take (at + 1) choices)) (take_more found at item lt)
    ∙ (ap (λ cs. choice_faults reserved all (all_found_in (take at found ++ get_or found at item ∷ [])) cs) (take_more choices at Kept (omega (arith, many)))
    ∙ (ap (λ xs. choice_faults reserved all xs (take at choices ++ get_or choices at Kept ∷ [])) (map-append found_in (take at found) (get_or found at item ∷ []))
    ∙ (faults_on reserved all (all_found_in (take at found)) (found_in (get_or found at item) ∷ []) (take at choices) (get_or choices at Kept ∷ []) (length_taken choices found at (omega (arith, many)) (omega arith) ∙ sym (length-map (take at found) found_in))
    ∙ ap (λ fs. choice_faults reserved all (all_found_in (take at found)) (take at choices) ++ fs) (append-nil (choice_fault reserved all (found_in (get_or found at item)) (get_or choices at Kept))
    ∙ (ap (λ x. choice_fault reserved all (found_in x) (get_or choices at Kept)) (sym e) ∙ ap (λ c. choice_fault reserved all (found_in item) c) (sym f)))))))

pub kept_more : {A : Type 0} (f : FoundLog → List A) (done : List Found) (choices : List Choice) (at : ℕ) (item : Found) (choice : Choice) (start now next : List A) → at ≡ length done → at < length choices → choice ≡ get_or choices at Kept
    → now ≡ start ++ flat_map f (kept_of (all_found_in done) (take at choices)) → next ≡ now ++ flat_map f (where_kept (found_in item) choice)
    → next ≡ start ++ flat_map f (kept_of (all_found_in (done ++ item ∷ [])) (take (at + 1) choices))
kept_more f done choices at item choice start now next is lt e h g = grown start now next _ (flat_map f (where_kept (found_in item) choice)) _ h g
    (ap (λ cs. flat_map f (kept_of (all_found_in (done ++ item ∷ [])) cs)) (take_more choices at Kept lt)
    ∙ (ap (λ xs. flat_map f (kept_of xs (take at choices ++ get_or choices at Kept ∷ []))) (map-append found_in done (item ∷ []))
    ∙ (ap (flat_map f) (kept_on (all_found_in done) (found_in item ∷ []) (take at choices) (get_or choices at Kept ∷ []) (length-take-le at choices (omega arith) ∙ (is ∙ sym (length-map done found_in))) ∙ ap (λ xs. kept_of (all_found_in done) (take at choices) ++ xs) (append-nil (where_kept (found_in item) (get_or choices at Kept)) ∙ ap (λ c. where_kept (found_in item) c) (sym e)))
    ∙ flat_map-append f (kept_of (all_found_in done) (take at choices)) (where_kept (found_in item) choice))))

-- the next of a list that is passed through
pub next_within : (all done rest : List Found) (x : Found) (at n : ℕ) → all ≡ done ++ x ∷ rest → n ≡ length all → at ≡ length done → at < n
next_within all done rest x at n e f g =
    let l : length all ≡ length done + length (x ∷ rest) = ap length e ∙ length-append done (x ∷ rest) in
    omega (arith, f, g, l)
