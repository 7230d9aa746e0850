-- The files that a rotation removes behind the log's way, by their names before it and behind it.
use Rattle.std.proofs.Common.{◌≡◌, ◌≢◌, ◌⊎◌, inl, inr, ⊎_elim, ℕ, ℤ, suc, ◌+◌, ◌<◌, Bool, true, false, cond, not, ◌&&◌, ◌||◌, int_lt, List, [], ◌∷◌, ◌++◌, map, reverse, Option, Some, None, refl, sym, ap, ◌∙◌, subst, arith}
use Rattle.std.specs.Prelude.{filter}
use Rattle.std.specs.List.{flat_map}
use Rattle.std.specs.Option.{option_to_list}
use Rattle.std.proofs.lemmas.Grind.{flat_map-append}
use Rattle.std.proofs.lemmas.List.{append-nil, map-append, reverse-append}
use Rattle.lr_rules.specs.declared.path.Path.{Path}
use Rattle.lr_rules.specs.declared.rule.Count.{Count}
use Rattle.lr_rules.specs.declared.rule.Naming.{Naming}
use Rattle.lr_rules.specs.declared.rule.Make.{Make}
use Rattle.lr_rules.specs.Dated.{stamp_key, IsDatedAt}
use Rattle.lr_rules.specs.Limits.{is_format, or_none}
use Rattle.lr_rules.proofs.Bools.{not_both}
use Rattle.lr_host.specs.Lists.{IsIn, IsNotIn, AreDistinct}
use Rattle.lr_host.proofs.Lists.{in_append, in_unmap, in_reverse, from_reverse, in_map}
use Rattle.lr_family.specs.declared.stand.Member.{Member}
use Rattle.lr_family.specs.Parts.{IsMember}
use Rattle.lr_family.specs.Places.{AreNamed}
use Rattle.lr_family.specs.Spots.{path_at}
use Rattle.lr_family.specs.Stands.{number_in, key_in, AreNewestFirst}
use Rattle.lr_family.proofs.Names.{placed_member}
use Rattle.lr_family.proofs.Numbers.{Every, Falls, every_filter, every_passes, falls_filter}
use Rattle.lr_family.proofs.Paths.{places_apart}
use Rattle.lr_copy.specs.declared.job.Job.{Job}
use Rattle.lr_chain.specs.declared.ready.Move.{Move}
use Rattle.lr_chain.specs.DatedReady.{ranked, renamed as renamed_log, with_one, all_of, removal_of}
use Rattle.lr_chain.specs.DatedRotation.{Ranked, gone as gone_of, AreFalling, key_of}
use Rattle.lr_chain.specs.Prepared.{numbered_ready}
use Rattle.lr_chain.specs.Ready.{removal_at, move_from}
use Rattle.lr_chain.specs.Rotation.{places_of, is_left, leftovers, kept, is_expired, goes, going as going_from, none_kept, retired}
use Rattle.lr_chain.specs.Serials.{IsNext}
use Rattle.lr_chain.specs.Standing.{AreGoing}
use Rattle.lr_chain.proofs.DatedFalling.{AreOthers, AreKeyed, others_by, others_gone}
use Rattle.lr_chain.proofs.DatedOrder.{all_fall, all_dated}
use Rattle.lr_chain.proofs.DatedWhole.{HasStamp, one_stamp, keyed_by}
use Rattle.lr_chain.proofs.Falling.{falls_all}
use Rattle.lr_chain.proofs.Removed.{rank_key}
use Rattle.lr_chain.proofs.Retired.{retired_falls}
use Rattle.lr_chain.proofs.DatedSteps.{map_reverse}
use Rattle.lr_plan.specs.Steps.{move}
use Rattle.lr_laws_family.specs.Members.{NoMemberHas}
use Rattle.lr_laws_family.specs.Numbered.{HasName, HaveNextNames}
use Rattle.lr_laws_family.proofs.Numbers.{first_named, kept_next, retire_named, at_number, own_at, names_of}
use Rattle.lr_laws_family.proofs.Picking.{named_all}
use Rattle.lr_laws_rotations.proofs.Stamped.{next_free}
use Rattle.lr_laws_rotations.specs.Rotation.{removal_paths}
use Rattle.lr_audited.specs.declared.line.WhyGone.{WhyGone}
use Rattle.lr_audited.specs.declared.line.WhyGone.TheVariants as why
use Rattle.lr_audited.specs.Removed.{member_going, log_going, moved_going, dated_going, going_with}
use Rattle.lr_audited.specs.Unlinked.{Origins, renamed, going_paths}
use Rattle.lr_audited.proofs.Tracing.{apart_in, distinct_reverse, renamed_to, renamed_other, run, dropped, dropped_other, firsts, seconds}

-- ---- lists

map_map : {A B C : Type 0} (f : B → C) (g : A → B) (xs : List A) → map f (map g xs) ≡ map (λ x. f (g x)) xs
map_map f g [] = refl
map_map f g (x ∷ xs) = ap (λ ys. f (g x) ∷ ys) (map_map f g xs)

in_filter : {A : Type 0} (test : A → Bool) (xs : List A) (x : A) → IsIn x (filter test xs) → IsIn x xs × (test x ≡ true)
in_filter test [] x i = absurd i
in_filter test (y ∷ ys) x i = by (λ j. in_filter test ys x j) (test y) refl i
  where
    by : (IsIn x (filter test ys) → IsIn x ys × (test x ≡ true)) → (b : Bool) → test y ≡ b → IsIn x (cond b (y ∷ filter test ys) (filter test ys)) → IsIn x (y ∷ ys) × (test x ≡ true)
    by f true e (inl same) = (inl same, subst (λ z. test z ≡ true) same e)
    by f true e (inr j) = let r = f j in (inr r.0, r.1)
    by f false e j = let r = f j in (inr r.0, r.1)

to_filter : {A : Type 0} (test : A → Bool) (xs : List A) (x : A) → IsIn x xs → test x ≡ true → IsIn x (filter test xs)
to_filter test [] x i e = absurd i
to_filter test (y ∷ ys) x (inl same) e = subst (λ b. IsIn x (cond b (y ∷ filter test ys) (filter test ys))) (sym (ap test same ∙ e)) (inl same)
to_filter test (y ∷ ys) x (inr i) e = by (to_filter test ys x i e) (test y)
  where
    by : IsIn x (filter test ys) → (b : Bool) → IsIn x (cond b (y ∷ filter test ys) (filter test ys))
    by j true = inr j
    by j false = j

every_in : (P : ℕ → Type 0) (ks : List ℕ) (k : ℕ) → Every P ks → IsIn k ks → P k
every_in P [] k a i = absurd i
every_in P (j ∷ js) k a (inl e) = subst P e a.0
every_in P (j ∷ js) k a (inr i) = every_in P js k a.1 i

firsts_both : (ps qs : List (Option Path × Path)) → firsts (ps ++ qs) ≡ firsts ps ++ firsts qs
firsts_both ps qs = flat_map-append (λ (p : Option Path × Path). option_to_list p.0) ps qs

one_turned : (o : Option Path) → option_to_list o ++ [] ≡ reverse (option_to_list o)
one_turned None = refl
one_turned (Some x) = refl

firsts_reverse : (ps : List (Option Path × Path)) → firsts (reverse ps) ≡ reverse (firsts ps)
firsts_reverse [] = refl
firsts_reverse (p ∷ ps) =
    ap firsts (reverse-append (p ∷ []) ps)
    ∙ (firsts_both (reverse ps) (p ∷ [])
    ∙ (ap (λ (xs : List Path). xs ++ (option_to_list p.0 ++ [])) (firsts_reverse ps)
    ∙ (ap (λ (xs : List Path). reverse (firsts ps) ++ xs) (one_turned p.0)
    ∙ sym (reverse-append (option_to_list p.0) (firsts ps)))))

-- ---- what is removed behind the log's way

-- the name that the file at the log's new path had: the log's, where it was renamed; a copy is a new file
abbrev pub log_from : Option Job → Path → Option Path
log_from None log = Some log
log_from (Some job) log = None

-- The file that has the second path behind the rotation had the first before it: it came to the log's new name; or it is a
-- member, which the leftovers' removals and the moves bring there.
pub data ComesBy (n : Naming) (from : Option Path) (early : List Path) (moves : List Move) (target : Path) (p : Option Path × Path) : Type 0 where
  landed : p.1 ≡ target → p.0 ≡ from → ComesBy n from early moves target p
  brought : (x : Path) → IsMember n x → IsMember n p.1 → p.1 ≢ target → p.0 ≡ Some x → ((came : Origins) → run (dropped came early) (map move moves) p.1 ≡ came x) → ComesBy n from early moves target p

-- What is told as going is just what is removed there, in order, each by its name before.
pub record Retires (n : Naming) (from : Option Path) (early : List Path) (moves : List Move) (target : Path) (gone told : List Path) : Type 0 where
  pub pairs : List (Option Path × Path)
  pub told_are : told ≡ firsts pairs
  pub gone_are : gone ≡ seconds pairs
  pub apart : AreDistinct (seconds pairs)
  pub each : (p : Option Path × Path) → IsIn p pairs → ComesBy n from early moves target p

-- the log, where it goes
log_path : (c : Count) (job : Option Job) (log : Path) (k : ℕ) → going_paths (log_going c job log k) ≡ cond (is_left c k) (option_to_list (log_from job log)) []
log_path c None log k = by (is_left c k)
  where
    by : (b : Bool) → going_paths (cond b ((log, why.Count) ∷ []) []) ≡ cond b (log ∷ []) []
    by true = refl
    by false = refl
log_path c (Some job) log k = by (is_left c k)
  where
    by : (b : Bool) → ◌≡◌ {A = List Path} [] (cond b [] [])
    by true = refl
    by false = refl

log_first : (b : Bool) (o : Option Path) (target : Path) → cond b (option_to_list o) [] ≡ firsts (cond b ((o, target) ∷ []) [])
log_first true None target = refl
log_first true (Some x) target = refl
log_first false o target = refl

-- ---- numbered members

module _ (c : Count) (maxage : Option ℕ) (now : ℤ) where
  one_moved : (m : Member) → going_paths (moved_going c maxage now m) ≡ cond (goes c maxage now m) (m.path ∷ []) []
  one_moved m = by (is_left c (number_in m.place)) (is_left c (suc (number_in m.place))) (is_expired maxage now m)
    where
      by : (a b old : Bool) → going_paths (cond a [] (cond b ((m.path, why.Count) ∷ []) (cond old ((m.path, why.Age) ∷ []) []))) ≡ cond (not a && (b || old)) (m.path ∷ []) []
      by true b old = refl
      by false true old = refl
      by false false true = refl
      by false false false = refl

  all_moved : (ms : List Member) → going_paths (flat_map (moved_going c maxage now) ms) ≡ map (λ (m : Member). m.path) (filter (goes c maxage now) ms)
  all_moved [] = refl
  all_moved (m ∷ ms) = map-append (λ (g : Path × WhyGone). g.0) (moved_going c maxage now m) (flat_map (moved_going c maxage now) ms)
      ∙ (ap (λ ps. ps ++ going_paths (flat_map (moved_going c maxage now) ms)) (one_moved m) ∙ (ap (λ ps. cond (goes c maxage now m) (m.path ∷ []) [] ++ ps) (all_moved ms) ∙ by (goes c maxage now m)))
    where
      by : (b : Bool) → cond b (m.path ∷ []) [] ++ map (λ (x : Member). x.path) (filter (goes c maxage now) ms) ≡ map (λ (x : Member). x.path) (cond b (m ∷ filter (goes c maxage now) ms) (filter (goes c maxage now) ms))
      by true = refl
      by false = refl

-- ---- the moves of a numbered family

module _ (n : Naming) where
  -- a path above all of them keeps its file
  moves_leave : (ks : List ℕ) (came : Origins) (q : ℕ) → HasName n q → Every (HasName n) ks → Every (λ k. HasName n (k + 1)) ks → Every (λ k. k + 1 < q) ks → run came (map move (map (move_from n) ks)) (path_at n q) ≡ came (path_at n q)
  moves_leave [] came q i a b low = refl
  moves_leave (k ∷ ks) came q i a b low =
      moves_leave ks (renamed (path_at n k) (path_at n (k + 1)) came) q i a.1 b.1 low.1
      ∙ renamed_other came (path_at n k) (path_at n (k + 1)) (path_at n q)
      (λ e. let same = places_apart n q k i a.0 e in let lt = low.0 in omega (arith, same, lt))
      (λ e. let same = places_apart n q (k + 1) i b.0 e in let lt = low.0 in omega (arith, same, lt))

  every_next : (k : ℕ) (ks : List ℕ) → Every (λ j. j < k) ks → Every (λ j. j + 1 < k + 1) ks
  every_next k [] a = tt
  every_next k (j ∷ js) a = (let lt = a.0 in omega (arith, lt), every_next k js a.1)

  -- each file comes one place on
  moves_bring : (ks : List ℕ) (came : Origins) (k : ℕ) → Falls ks → Every (HasName n) ks → Every (λ j. HasName n (j + 1)) ks → IsIn k ks → run came (map move (map (move_from n) ks)) (path_at n (k + 1)) ≡ came (path_at n k)
  moves_bring [] came k f a b i = absurd i
  moves_bring (p ∷ ks) came k f a b (inl e) =
      subst (λ (j : ℕ). run (renamed (path_at n p) (path_at n (p + 1)) came) (map move (map (move_from n) ks)) (path_at n (j + 1)) ≡ came (path_at n j)) e
      (moves_leave ks (renamed (path_at n p) (path_at n (p + 1)) came) (p + 1) b.0 a.1 b.1 (every_next p ks f.0) ∙ renamed_to came (path_at n p) (path_at n (p + 1)))
  moves_bring (p ∷ ks) came k f a b (inr i) =
      let lt : k < p = every_in (λ j. j < p) ks k f.0 i in
      let named : HasName n k = every_in (HasName n) ks k a.1 i in
      moves_bring ks (renamed (path_at n p) (path_at n (p + 1)) came) k f.1 a.1 b.1 i
      ∙ renamed_other came (path_at n p) (path_at n (p + 1)) (path_at n k)
      (λ e. let same = places_apart n k p named a.0 e in omega (arith, same, lt))
      (λ e. let same = places_apart n k (p + 1) named b.0 e in omega (arith, same, lt))

  pub removed_paths : (ks : List ℕ) → removal_paths (map (removal_at n) ks) ≡ map (path_at n) ks
  removed_paths [] = refl
  removed_paths (k ∷ ks) = ap (λ (xs : List Path). path_at n k ∷ xs) (removed_paths ks)

  -- other places have other paths
  not_at : (k : ℕ) (ks : List ℕ) → HasName n k → Every (HasName n) ks → Every (λ j. k ≢ j) ks → IsNotIn (path_at n k) (map (path_at n) ks)
  not_at k [] i a ne = tt
  not_at k (j ∷ js) i a ne = ((λ e. ne.0 (places_apart n k j i a.0 e)), not_at k js i a.1 ne.1)

  below_apart : (k : ℕ) (ks : List ℕ) → Every (λ j. j < k) ks → Every (λ j. k ≢ j) ks
  below_apart k [] a = tt
  below_apart k (j ∷ js) a = ((λ e. let lt = a.0 in omega (arith, lt, e)), below_apart k js a.1)

  pub places_distinct : (ks : List ℕ) → Falls ks → Every (HasName n) ks → AreDistinct (map (path_at n) ks)
  places_distinct [] f a = tt
  places_distinct (k ∷ ks) f a = (not_at k ks a.0 a.1 (below_apart k ks f.0), places_distinct ks f.1 a.1)

  -- a place that isn't left over
  left_apart : (c : Count) (k : ℕ) (ks : List ℕ) → is_left c k ≡ false → Every (λ j. is_left c j ≡ true) ks → Every (λ j. k ≢ j) ks
  left_apart c k [] stays a = tt
  left_apart c k (j ∷ js) stays a = ((λ e. not_both (is_left c k) (ap (is_left c) e ∙ a.0) stays), left_apart c k js stays a.1)

-- ---- a numbered family

module _ (log begin : Path) (job : Option Job) (n : Naming) (c : Count) (maxage : Option ℕ) (now : ℤ) (anew : Make) (members : List Member) where
  abbrev those : List Member
  those = filter (goes c maxage now) members

  abbrev pair_of : Member → Option Path × Path
  pair_of m = (Some m.path, path_at n (suc (number_in m.place)))

  abbrev moved_pairs : List (Option Path × Path)
  moved_pairs = reverse (map pair_of those)

  abbrev log_pairs : List (Option Path × Path)
  log_pairs = cond (is_left c 0) ((log_from job log, path_at n 0) ∷ []) []

  abbrev places : List ℕ
  places = places_of members

  abbrev told : List (Path × WhyGone)
  told = reverse (log_going c job log 0 ++ flat_map (moved_going c maxage now) members)

  some_firsts : (ms : List Member) → firsts (map pair_of ms) ≡ map (λ (m : Member). m.path) ms
  some_firsts [] = refl
  some_firsts (m ∷ ms) = ap (λ (xs : List Path). m.path ∷ xs) (some_firsts ms)

  moved_firsts : firsts moved_pairs ≡ reverse (map (λ (m : Member). m.path) those)
  moved_firsts = firsts_reverse (map pair_of those) ∙ ap reverse (some_firsts those)

  turned_log : (b : Bool) (o : Option Path) → reverse (cond b (option_to_list o) []) ≡ firsts (cond b ((o, path_at n 0) ∷ []) [])
  turned_log true None = refl
  turned_log true (Some x) = refl
  turned_log false o = refl

  log_firsts : reverse (going_paths (log_going c job log 0)) ≡ firsts log_pairs
  log_firsts = ap reverse (log_path c job log 0) ∙ turned_log (is_left c 0) (log_from job log)

  told_so : going_paths told ≡ firsts (moved_pairs ++ log_pairs)
  told_so = map_reverse (λ (g : Path × WhyGone). g.0) (log_going c job log 0 ++ flat_map (moved_going c maxage now) members)
      ∙ (ap reverse (map-append (λ (g : Path × WhyGone). g.0) (log_going c job log 0) (flat_map (moved_going c maxage now) members))
      ∙ (reverse-append (going_paths (log_going c job log 0)) (going_paths (flat_map (moved_going c maxage now) members))
      ∙ (ap (λ (xs : List Path). reverse xs ++ reverse (going_paths (log_going c job log 0))) (all_moved c maxage now members)
      ∙ (ap (λ (xs : List Path). reverse (map (λ (m : Member). m.path) those) ++ xs) log_firsts
      ∙ (ap (λ (xs : List Path). xs ++ firsts log_pairs) (sym moved_firsts) ∙ sym (firsts_both moved_pairs log_pairs))))))

  moved_seconds : map (path_at n) (map suc (going_from c maxage now members)) ≡ seconds moved_pairs
  moved_seconds =
      ap (map (path_at n)) (map_reverse suc (map (λ (m : Member). number_in m.place) those))
      ∙ (map_reverse (path_at n) (map suc (map (λ (m : Member). number_in m.place) those))
      ∙ (ap reverse (ap (map (path_at n)) (map_map suc (λ (m : Member). number_in m.place) those) ∙ map_map (path_at n) (λ (m : Member). suc (number_in m.place)) those)
      ∙ (ap reverse (sym (map_map (λ (p : Option Path × Path). p.1) pair_of those)) ∙ sym (map_reverse (λ (p : Option Path × Path). p.1) (map pair_of those)))))

  log_seconds : map (path_at n) (none_kept c) ≡ seconds log_pairs
  log_seconds = by (is_left c 0)
    where
      by : (b : Bool) → map (path_at n) (cond b (0 ∷ []) []) ≡ seconds (cond b ((log_from job log, path_at n 0) ∷ []) [])
      by true = refl
      by false = refl

  seconds_so : map (path_at n) (retired c (going_from c maxage now members)) ≡ seconds (moved_pairs ++ log_pairs)
  seconds_so = map-append (path_at n) (map suc (going_from c maxage now members)) (none_kept c)
      ∙ (ap (λ (xs : List Path). xs ++ map (path_at n) (none_kept c)) moved_seconds ∙ (ap (λ (xs : List Path). seconds moved_pairs ++ xs) log_seconds ∙ sym (map-append (λ (p : Option Path × Path). p.1) moved_pairs log_pairs)))

  not_left : (k : ℕ) (t : Bool) → (not (is_left c k) && t) ≡ true → is_left c k ≡ false
  not_left k t e = by (is_left c k) refl e
    where
      by : (b : Bool) → is_left c k ≡ b → (not b && t) ≡ true → is_left c k ≡ false
      by false h f = h
      by true h f = absurd (cc)

  abbrev IsOne : Option Path × Path → Type 0
  IsOne p = ComesBy n (log_from job log) (removal_paths (numbered_ready begin n c maxage now anew members).leftovers) (numbered_ready begin n c maxage now anew members).moves (path_at n 0) p

  module _ (none : n.dated ≡ None) (named : AreNamed n members) (next : HaveNextNames n c (places_of members)) (going : AreGoing c (places_of members) (going_from c maxage now members)) (falls : Falls (places_of members)) where
    places_named : Every (HasName n) (places_of members)
    places_named = names_of n none members named

    kept_names : Every (λ k. HasName n (k + 1)) (kept c (places_of members))
    kept_names = kept_next n c (places_of members) next

    of_member : (m : Member) → IsIn m members → goes c maxage now m ≡ true → IsOne (pair_of m)
    of_member m i e = brought m.path (placed_member n m.place m.path (named_all n members m named i)) (own_at n none (suc (number_in m.place)) after) apart refl brings
      where
        at : HasName n (number_in m.place) × (m.path ≡ path_at n (number_in m.place))
        at = let h = at_number n none m.place m.path (named_all n members m named i) in (h.0, h.1)

        stays : is_left c (number_in m.place) ≡ false
        stays = not_left (number_in m.place) (is_left c (suc (number_in m.place)) || is_expired maxage now m) e

        turned : not (is_left c (number_in m.place)) ≡ true
        turned = ap not stays

        in_kept : IsIn (number_in m.place) (kept c (places_of members))
        in_kept = to_filter (λ (place : ℕ). not (is_left c place)) (places_of members) (number_in m.place)
            (in_reverse (number_in m.place) (map (λ (x : Member). number_in x.place) members) (in_map (λ (x : Member). number_in x.place) m members i)) turned

        after : HasName n (suc (number_in m.place))
        after = let h : HasName n (number_in m.place + 1) = every_in (λ j. HasName n (j + 1)) (kept c (places_of members)) (number_in m.place) kept_names in_kept in omega (arith, h)

        apart : path_at n (suc (number_in m.place)) ≢ path_at n 0
        apart same = let zero_is = places_apart n (suc (number_in m.place)) 0 after (first_named n c (places_of members) next) same in omega (arith, zero_is)

        out : IsNotIn (path_at n (number_in m.place)) (removal_paths (map (removal_at n) (leftovers c (places_of members))))
        out = subst (IsNotIn (path_at n (number_in m.place))) (sym (removed_paths n (leftovers c (places_of members))))
            (not_at n (number_in m.place) (leftovers c (places_of members)) at.0 (every_filter (HasName n) (is_left c) (places_of members) places_named)
            (left_apart n c (number_in m.place) (leftovers c (places_of members)) stays (every_passes (is_left c) (places_of members))))

        one_on : number_in m.place + 1 ≡ suc (number_in m.place)
        one_on = omega arith

        brings : (came : Origins) → run (dropped came (removal_paths (map (removal_at n) (leftovers c (places_of members))))) (map move (map (move_from n) (kept c (places_of members)))) (path_at n (suc (number_in m.place))) ≡ came m.path
        brings came =
            ap (λ (j : ℕ). run (dropped came (removal_paths (map (removal_at n) (leftovers c (places_of members))))) (map move (map (move_from n) (kept c (places_of members)))) (path_at n j)) (sym one_on)
            ∙ (moves_bring n (kept c (places_of members)) (dropped came (removal_paths (map (removal_at n) (leftovers c (places_of members))))) (number_in m.place)
            (falls_filter (λ (j : ℕ). not (is_left c j)) (places_of members) falls) (every_filter (HasName n) (λ (j : ℕ). not (is_left c j)) (places_of members) places_named) kept_names in_kept
            ∙ (dropped_other came (removal_paths (map (removal_at n) (leftovers c (places_of members)))) (path_at n (number_in m.place)) out ∙ ap came (sym at.1)))

    pub numbered_retires : Retires n (log_from job log) (removal_paths (numbered_ready begin n c maxage now anew members).leftovers) (numbered_ready begin n c maxage now anew members).moves (numbered_ready begin n c maxage now anew members).target
        (removal_paths (numbered_ready begin n c maxage now anew members).retire) (going_paths (reverse (log_going c job log 0 ++ flat_map (moved_going c maxage now) members)))
    numbered_retires = record {
      pairs = moved_pairs ++ log_pairs;
      told_are = told_so;
      gone_are = removed_paths n (retired c (going_from c maxage now members)) ∙ seconds_so;
      apart = subst AreDistinct seconds_so (places_distinct n (retired c (going_from c maxage now members)) (retired_falls c (going_from c maxage now members) (falls_all (going_from c maxage now members) going.falling)) (retire_named n c (places_of members) (going_from c maxage now members) next going));
      each = each;
    }
      where
        of_moved : (p : Option Path × Path) → IsIn p (map pair_of those) → IsOne p
        of_moved p i =
            let u = in_unmap pair_of p those i in
            let f = in_filter (goes c maxage now) members u.0 u.1 in
            subst IsOne u.2 (of_member u.0 f.0 f.1)

        of_log : (b : Bool) (p : Option Path × Path) → IsIn p (cond b ((log_from job log, path_at n 0) ∷ []) []) → IsOne p
        of_log true p (inl e) = landed (sym (ap (λ (z : Option Path × Path). z.1) e)) (sym (ap (λ (z : Option Path × Path). z.0) e))
        of_log true p (inr i) = absurd i
        of_log false p i = absurd i

        each : (p : Option Path × Path) → IsIn p (moved_pairs ++ log_pairs) → IsOne p
        each p i = ⊎_elim (λ j. of_moved p (from_reverse p (map pair_of those) j)) (λ j. of_log (is_left c 0) p j) (in_append p moved_pairs log_pairs i)

    -- and what is left over has paths of its own
    pub numbered_left : AreDistinct (removal_paths (numbered_ready begin n c maxage now anew members).leftovers)
    numbered_left = subst AreDistinct (sym (removed_paths n (leftovers c (places_of members))))
        (places_distinct n (leftovers c (places_of members)) (falls_filter (is_left c) (places_of members) falls) (every_filter (HasName n) (is_left c) (places_of members) places_named))

-- ---- a dated family

abbrev rank_paths : List Ranked → List Path
rank_paths rs = map (λ (r : Ranked). r.path) rs

plain_paths : (rs : List Ranked) → removal_paths (map removal_of rs) ≡ rank_paths rs
plain_paths [] = refl
plain_paths (r ∷ rs) = ap (λ (xs : List Path). r.path ∷ xs) (plain_paths rs)

others_out : (y : Path) (rs : List Ranked) → AreOthers y rs → IsNotIn y (rank_paths rs)
others_out y [] h = tt
others_out y (r ∷ rs) h = (h.0, others_out y rs h.1)

gone_distinct : (n : Naming) (c : Count) (k : ℕ) (rs : List Ranked) → or_none is_format n.dated ≡ true → AreFalling rs → AreKeyed (HasStamp n) rs → AreDistinct (rank_paths (gone_of c k rs))
gone_distinct n c k [] good falls keyed = tt
gone_distinct n c k (r ∷ rs) good falls keyed = by (is_left c k || r.old) (gone_distinct n c (suc k) rs good falls.1 keyed.1)
  where
    by : (b : Bool) → AreDistinct (rank_paths (gone_of c (suc k) rs)) → AreDistinct (rank_paths (cond b (r ∷ gone_of c (suc k) rs) (gone_of c (suc k) rs)))
    by true d = (others_out r.path (gone_of c (suc k) rs) (others_gone c (suc k) r.path rs (others_by (HasStamp n) r.path (key_of r) rs (one_stamp n good) keyed.0 falls.0 keyed.1)), d)
    by false d = d

module _ (log target : Path) (job : Option Job) (c : Count) (maxage : Option ℕ) (now : ℤ) (moment : ℤ) (serial : ℕ) where
  abbrev one : Ranked
  one = renamed_log moment serial target

  abbrev stays : ℕ → Member → List (Option Path × Path)
  stays k m = cond (is_left c k || is_expired maxage now m) ((Some m.path, m.path) ∷ []) []

  abbrev lands : ℕ → List (Option Path × Path)
  lands k = cond (is_left c k) ((log_from job log, target) ∷ []) []

  abbrev pairs_from : ℕ → List Member → List (Option Path × Path)
  pairs_from k [] = []
  pairs_from k (m ∷ ms) = stays k m ++ pairs_from (suc k) ms

  abbrev pairs_with : ℕ → List Member → List (Option Path × Path)
  pairs_with k [] = lands k
  pairs_with k (m ∷ ms) = cond (int_lt (stamp_key moment serial) (key_in m.place)) (stays k m ++ pairs_with (suc k) ms) (lands k ++ pairs_from (suc k) (m ∷ ms))

  -- ---- what is told

  member_now : (k : ℕ) (m : Member) → going_paths (member_going c maxage now k m) ≡ firsts (stays k m)
  member_now k m = by (is_left c k) (is_expired maxage now m)
    where
      by : (a old : Bool) → going_paths (cond a ((m.path, why.Count) ∷ []) (cond old ((m.path, why.Age) ∷ []) [])) ≡ firsts (cond (a || old) ((Some m.path, m.path) ∷ []) [])
      by true old = refl
      by false true = refl
      by false false = refl

  log_now : (k : ℕ) → going_paths (log_going c job log k) ≡ firsts (lands k)
  log_now k = log_path c job log k ∙ log_first (is_left c k) (log_from job log) target

  joined_now : (a b : List (Path × WhyGone)) (x y : List (Option Path × Path)) → going_paths a ≡ firsts x → going_paths b ≡ firsts y → going_paths (a ++ b) ≡ firsts (x ++ y)
  joined_now a b x y e f = map-append (λ (g : Path × WhyGone). g.0) a b ∙ (ap (λ (ps : List Path). ps ++ going_paths b) e ∙ (ap (λ (ps : List Path). firsts x ++ ps) f ∙ sym (firsts_both x y)))

  from_now : (k : ℕ) (ms : List Member) → going_paths (dated_going c maxage now k ms) ≡ firsts (pairs_from k ms)
  from_now k [] = refl
  from_now k (m ∷ ms) = joined_now (member_going c maxage now k m) (dated_going c maxage now (suc k) ms) (stays k m) (pairs_from (suc k) ms) (member_now k m) (from_now (suc k) ms)

  with_now : (k : ℕ) (ms : List Member) → going_paths (going_with c maxage now (stamp_key moment serial) (log_going c job log) k ms) ≡ firsts (pairs_with k ms)
  with_now k [] = log_now k
  with_now k (m ∷ ms) = by (with_now (suc k) ms) (int_lt (stamp_key moment serial) (key_in m.place))
    where
      by : going_paths (going_with c maxage now (stamp_key moment serial) (log_going c job log) (suc k) ms) ≡ firsts (pairs_with (suc k) ms) → (b : Bool) → going_paths (cond b (member_going c maxage now k m ++ going_with c maxage now (stamp_key moment serial) (log_going c job log) (suc k) ms) (log_going c job log k ++ dated_going c maxage now (suc k) (m ∷ ms)))
          ≡ firsts (cond b (stays k m ++ pairs_with (suc k) ms) (lands k ++ pairs_from (suc k) (m ∷ ms)))
      by h true = joined_now (member_going c maxage now k m) (going_with c maxage now (stamp_key moment serial) (log_going c job log) (suc k) ms) (stays k m) (pairs_with (suc k) ms) (member_now k m) h
      by h false = joined_now (log_going c job log k) (dated_going c maxage now (suc k) (m ∷ ms)) (lands k) (pairs_from (suc k) (m ∷ ms)) (log_now k) (from_now (suc k) (m ∷ ms))

  -- ---- what is removed

  gone_step : (k : ℕ) (r : Ranked) (rs : List Ranked) → rank_paths (gone_of c k (r ∷ rs)) ≡ cond (is_left c k || r.old) (r.path ∷ []) [] ++ rank_paths (gone_of c (suc k) rs)
  gone_step k r rs = by (is_left c k || r.old)
    where
      by : (b : Bool) → rank_paths (cond b (r ∷ gone_of c (suc k) rs) (gone_of c (suc k) rs)) ≡ cond b (r.path ∷ []) [] ++ rank_paths (gone_of c (suc k) rs)
      by true = refl
      by false = refl

  stays_then : (k : ℕ) (m : Member) → cond (is_left c k || is_expired maxage now m) (m.path ∷ []) [] ≡ seconds (stays k m)
  stays_then k m = by (is_left c k || is_expired maxage now m)
    where
      by : (b : Bool) → cond b (m.path ∷ []) [] ≡ seconds (cond b ((Some m.path, m.path) ∷ []) [])
      by true = refl
      by false = refl

  lands_then : (k : ℕ) → cond (is_left c k || false) (target ∷ []) [] ≡ seconds (lands k)
  lands_then k = by (is_left c k)
    where
      by : (b : Bool) → cond (b || false) (target ∷ []) [] ≡ seconds (cond b ((log_from job log, target) ∷ []) [])
      by true = refl
      by false = refl

  joined_then : (a b : List Path) (x y : List (Option Path × Path)) → a ≡ seconds x → b ≡ seconds y → a ++ b ≡ seconds (x ++ y)
  joined_then a b x y e f = ap (λ (ps : List Path). ps ++ b) e ∙ (ap (λ (ps : List Path). seconds x ++ ps) f ∙ sym (map-append (λ (p : Option Path × Path). p.1) x y))

  from_then : (k : ℕ) (ms : List Member) → rank_paths (gone_of c k (map (ranked maxage now) ms)) ≡ seconds (pairs_from k ms)
  from_then k [] = refl
  from_then k (m ∷ ms) = gone_step k (ranked maxage now m) (map (ranked maxage now) ms) ∙ joined_then (cond (is_left c k || is_expired maxage now m) (m.path ∷ []) []) (rank_paths (gone_of c (suc k) (map (ranked maxage now) ms))) (stays k m) (pairs_from (suc k) ms) (stays_then k m) (from_then (suc k) ms)

  with_then : (k : ℕ) (ms : List Member) → rank_paths (gone_of c k (with_one one (map (ranked maxage now) ms))) ≡ seconds (pairs_with k ms)
  with_then k [] = gone_step k one [] ∙ (ap (λ (ps : List Path). ps ++ rank_paths []) (lands_then k) ∙ append-nil (seconds (lands k)))
  with_then k (m ∷ ms) = ap (λ (key : ℤ). rank_paths (gone_of c k (cond (int_lt (stamp_key moment serial) key) (ranked maxage now m ∷ with_one one (map (ranked maxage now) ms)) (one ∷ ranked maxage now m ∷ map (ranked maxage now) ms)))) (rank_key m.place)
      ∙ by (with_then (suc k) ms) (int_lt (stamp_key moment serial) (key_in m.place))
    where
      by : rank_paths (gone_of c (suc k) (with_one one (map (ranked maxage now) ms))) ≡ seconds (pairs_with (suc k) ms) → (b : Bool) → rank_paths (gone_of c k (cond b (ranked maxage now m ∷ with_one one (map (ranked maxage now) ms)) (one ∷ ranked maxage now m ∷ map (ranked maxage now) ms)))
          ≡ seconds (cond b (stays k m ++ pairs_with (suc k) ms) (lands k ++ pairs_from (suc k) (m ∷ ms)))
      by h true = gone_step k (ranked maxage now m) (with_one one (map (ranked maxage now) ms)) ∙ joined_then (cond (is_left c k || is_expired maxage now m) (m.path ∷ []) []) (rank_paths (gone_of c (suc k) (with_one one (map (ranked maxage now) ms)))) (stays k m) (pairs_with (suc k) ms) (stays_then k m) h
      by h false = gone_step k one (ranked maxage now m ∷ map (ranked maxage now) ms) ∙ joined_then (cond (is_left c k || false) (target ∷ []) []) (rank_paths (gone_of c (suc k) (map (ranked maxage now) (m ∷ ms)))) (lands k) (pairs_from (suc k) (m ∷ ms)) (lands_then k) (from_then (suc k) (m ∷ ms))

  -- ---- each comes by the rotation

  module _ (all : List Member) where
    abbrev IsPair : Option Path × Path → Type 0
    IsPair p = ((m : Member) × IsIn m all × ((Some m.path, m.path) ≡ p)) ⊎ ((log_from job log, target) ≡ p)

    stays_pair : (p : Option Path × Path) (k : ℕ) (m : Member) → IsIn m all → IsIn p (stays k m) → IsPair p
    stays_pair p k m among i = by (is_left c k || is_expired maxage now m) i
      where
        by : (b : Bool) → IsIn p (cond b ((Some m.path, m.path) ∷ []) []) → IsPair p
        by true (inl e) = inl (m, among, e)
        by true (inr j) = absurd j
        by false j = absurd j

    lands_pair : (p : Option Path × Path) (k : ℕ) → IsIn p (lands k) → IsPair p
    lands_pair p k i = by (is_left c k) i
      where
        by : (b : Bool) → IsIn p (cond b ((log_from job log, target) ∷ []) []) → IsPair p
        by true (inl e) = inr e
        by true (inr j) = absurd j
        by false j = absurd j

    from_pair : (p : Option Path × Path) (k : ℕ) (ms : List Member) → ((m : Member) → IsIn m ms → IsIn m all) → IsIn p (pairs_from k ms) → IsPair p
    from_pair p k [] among i = absurd i
    from_pair p k (m ∷ ms) among i = ⊎_elim (λ j. stays_pair p k m (among m (inl refl)) j) (λ j. from_pair p (suc k) ms (λ x l. among x (inr l)) j) (in_append p (stays k m) (pairs_from (suc k) ms) i)

    with_pair : (p : Option Path × Path) (k : ℕ) (ms : List Member) → ((m : Member) → IsIn m ms → IsIn m all) → IsIn p (pairs_with k ms) → IsPair p
    with_pair p k [] among i = lands_pair p k i
    with_pair p k (m ∷ ms) among i = by (λ l. with_pair p (suc k) ms (λ x j. among x (inr j)) l) (int_lt (stamp_key moment serial) (key_in m.place)) i
      where
        by : (IsIn p (pairs_with (suc k) ms) → IsPair p) → (b : Bool) → IsIn p (cond b (stays k m ++ pairs_with (suc k) ms) (lands k ++ pairs_from (suc k) (m ∷ ms))) → IsPair p
        by f true j = ⊎_elim (λ l. stays_pair p k m (among m (inl refl)) l) (λ l. f l) (in_append p (stays k m) (pairs_with (suc k) ms) j)
        by f false j = ⊎_elim (λ l. lands_pair p k l) (λ l. from_pair p (suc k) (m ∷ ms) among l) (in_append p (lands k) (pairs_from (suc k) (m ∷ ms)) j)

  module _ (n : Naming) (members : List Member) (good : or_none is_format n.dated ≡ true) (named : AreNamed n members) (newest : AreNewestFirst members) (next : IsNext members moment serial) (at : IsDatedAt n moment serial target) where
    gone_so : removal_paths (map removal_of (reverse (gone_of c 0 (all_of maxage now moment serial target members)))) ≡ seconds (reverse (pairs_with 0 members))
    gone_so = plain_paths (reverse (gone_of c 0 (all_of maxage now moment serial target members)))
        ∙ (map_reverse (λ (x : Ranked). x.path) (gone_of c 0 (all_of maxage now moment serial target members)) ∙ (ap reverse (with_then 0 members) ∙ sym (map_reverse (λ (p : Option Path × Path). p.1) (pairs_with 0 members))))

    -- no member has the log's new name
    free : NoMemberHas members target
    free = next_free n good members named moment serial next target at

    distinct : AreDistinct (seconds (reverse (pairs_with 0 members)))
    distinct = subst AreDistinct (sym (map_reverse (λ (p : Option Path × Path). p.1) (pairs_with 0 members)))
        (distinct_reverse (seconds (pairs_with 0 members)) (subst AreDistinct (with_then 0 members)
        (gone_distinct n c 0 (all_of maxage now moment serial target members) good (all_fall n maxage now moment serial target members newest next named at) (keyed_by n (all_of maxage now moment serial target members) (all_dated n maxage now moment serial target members named at)))))

    pub dated_retires : Retires n (log_from job log) [] [] target (removal_paths (map removal_of (reverse (gone_of c 0 (all_of maxage now moment serial target members)))))
        (going_paths (reverse (going_with c maxage now (stamp_key moment serial) (log_going c job log) 0 members)))
    dated_retires = record {
      pairs = reverse (pairs_with 0 members);
      told_are = map_reverse (λ (g : Path × WhyGone). g.0) (going_with c maxage now (stamp_key moment serial) (log_going c job log) 0 members) ∙ (ap reverse (with_now 0 members) ∙ sym (firsts_reverse (pairs_with 0 members)));
      gone_are = gone_so;
      apart = distinct;
      each = λ p i. by p (with_pair members p 0 members (λ m j. j) (from_reverse p (pairs_with 0 members) i));
    }
      where
        of_member : (m : Member) → IsIn m members → ComesBy n (log_from job log) [] [] target (Some m.path, m.path)
        of_member m i =
            let owned : IsMember n m.path = placed_member n m.place m.path (named_all n members m named i) in
            brought m.path owned owned (apart_in target m.path (map (λ (x : Member). x.path) members) free (in_map (λ (x : Member). x.path) m members i)) refl (λ came. refl)

        by : (p : Option Path × Path) → IsPair members p → ComesBy n (log_from job log) [] [] target p
        by p (inl h) = subst (ComesBy n (log_from job log) [] [] target) h.2 (of_member h.0 h.1)
        by p (inr e) = subst (ComesBy n (log_from job log) [] [] target) e (landed refl refl)
