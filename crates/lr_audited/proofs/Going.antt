-- What goes of dated members, one more each, and the log among them.
use Rattle.std.proofs.Common.{◌≡◌, ◌<◌, ◌≤◌, ◌+◌, ℕ, ℤ, suc, Bool, true, false, cond, int_lt, List, [], ◌∷◌, ◌++◌, length, take, drop, get_or, Option, Some, None, subst, refl, sym, ap, ◌∙◌, arith, append_assoc, length-take}
use Rattle.std.specs.Prelude.{◌↔◌, IsSome, is_some}
use Rattle.std.specs.List.{flat_map}
use Rattle.std.proofs.Math.Seq.{drop-cons}
use Rattle.std.proofs.lemmas.List.{append-nil, drop_all, take_more}
use Rattle.lr_rules.specs.declared.path.Path.{Path}
use Rattle.lr_rules.specs.declared.clock.Clock.{Clock}
use Rattle.lr_rules.specs.declared.rule.Count.{Count}
use Rattle.lr_rules.specs.declared.rule.Format.{Format}
use Rattle.lr_rules.specs.Dated.{IsDatedAt, stamp_key}
use Rattle.lr_family.specs.declared.place.Place.{Place}
use Rattle.lr_family.specs.declared.place.Place.TheVariants as at
use Rattle.lr_family.specs.declared.stand.Member.{Member}
use Rattle.lr_family.specs.Stands.{key_in}
use Rattle.lr_plan.specs.declared.plan.LogPlan.{LogPlan}
use Rattle.lr_plan.specs.declared.plan.SetPlan.{SetPlan}
use Rattle.lr_audited.specs.declared.line.WhyGone.{WhyGone}
use Rattle.lr_audited.specs.Removed.{member_going, dated_going, going_with, new_seconds, new_serial, log_going, newest_going, leftovers_of, retired_of, log_removed, set_removed, IsStamped}

module _ (c : Count) (maxage : Option ℕ) (now : ℤ) where
  dated_snoc : (k : ℕ) (xs : List Member) (m : Member) → dated_going c maxage now k (xs ++ m ∷ []) ≡ dated_going c maxage now k xs ++ member_going c maxage now (k + length xs) m
  dated_snoc k [] m = append-nil (member_going c maxage now k m) ∙ ap (λ (j : ℕ). member_going c maxage now j m) (let e : k ≡ k + 0 = omega arith in e)
  dated_snoc k (x ∷ xs) m =
      ap (λ (ys : List (Path × WhyGone)). member_going c maxage now k x ++ ys) (dated_snoc (suc k) xs m ∙ ap (λ (j : ℕ). dated_going c maxage now (suc k) xs ++ member_going c maxage now j m) (let e : suc k + length xs ≡ k + suc (length xs) = omega arith in e))
      ∙ sym (append_assoc (member_going c maxage now k x) (dated_going c maxage now (suc k) xs) (member_going c maxage now (k + suc (length xs)) m))

  grown : (k : ℕ) (members : List Member) (i : ℕ) (m : Member) → m ≡ get_or members i m → i < length members → dated_going c maxage now k (take (i + 1) members) ≡ dated_going c maxage now k (take i members) ++ member_going c maxage now (k + i) m
  grown k members i m is lt =
      ap (dated_going c maxage now k) (take_more members i m lt ∙ ap (λ x. take i members ++ x ∷ []) (sym is))
      ∙ (dated_snoc k (take i members) m ∙ ap (λ (j : ℕ). dated_going c maxage now k (take i members) ++ member_going c maxage now j m) (let l = length-take i members in let e : k + length (take i members) ≡ k + i = omega (arith, l, lt) in e))

  grown_first : (members : List Member) (i : ℕ) (m : Member) → m ≡ get_or members i m → i < length members → dated_going c maxage now 0 (take (i + 1) members) ≡ dated_going c maxage now 0 (take i members) ++ member_going c maxage now i m
  grown_first members i m is lt = grown 0 members i m is lt ∙ ap (λ (j : ℕ). dated_going c maxage now 0 (take i members) ++ member_going c maxage now j m) (let e : 0 + i ≡ i = omega arith in e)

  pub dated_more : (first : ℕ) (members : List Member) (i : ℕ) (m : Member) (start before after : List (Path × WhyGone)) → m ≡ get_or members i m → i < length members → before ≡ start ++ dated_going c maxage now first (take i members)
      → after ≡ before ++ member_going c maxage now (first + i) m → after ≡ start ++ dated_going c maxage now first (take (i + 1) members)
  dated_more first members i m start before after is lt so more =
      more ∙ (ap (λ (xs : List (Path × WhyGone)). xs ++ member_going c maxage now (first + i) m) so
      ∙ (append_assoc start (dated_going c maxage now first (take i members)) (member_going c maxage now (first + i) m)
      ∙ ap (λ (xs : List (Path × WhyGone)). start ++ xs) (sym (grown first members i m is lt))))

  module _ (key : ℤ) (log : ℕ → List (Path × WhyGone)) where
    next : (members : List Member) (i : ℕ) (m : Member) → m ≡ get_or members i m → i < length members → drop i members ≡ m ∷ drop (i + 1) members
    next members i m is lt = drop-cons members i m lt ∙ (ap (λ (x : Member). x ∷ drop (suc i) members) (sym is) ∙ ap (λ (k : ℕ). m ∷ drop k members) (let e : suc i ≡ i + 1 = omega arith in e))

    later_one : (k : ℕ) (m : Member) (ms : List Member) → int_lt key (key_in m.place) ≡ true → going_with c maxage now key log k (m ∷ ms) ≡ member_going c maxage now k m ++ going_with c maxage now key log (suc k) ms
    later_one k m ms later = ap (λ (b : Bool). cond b (member_going c maxage now k m ++ going_with c maxage now key log (suc k) ms) (log k ++ dated_going c maxage now (suc k) (m ∷ ms))) later

    not_later : (k : ℕ) (m : Member) (ms : List Member) → int_lt key (key_in m.place) ≡ false → going_with c maxage now key log k (m ∷ ms) ≡ log k ++ dated_going c maxage now (suc k) (m ∷ ms)
    not_later k m ms earlier = ap (λ (b : Bool). cond b (member_going c maxage now k m ++ going_with c maxage now key log (suc k) ms) (log k ++ dated_going c maxage now (suc k) (m ∷ ms))) earlier

    pub parts_more : (members : List Member) (i : ℕ) (m : Member) → m ≡ get_or members i m → i < length members → int_lt key (key_in m.place) ≡ true
        → going_with c maxage now key log 0 members ≡ dated_going c maxage now 0 (take i members) ++ going_with c maxage now key log i (drop i members)
        → going_with c maxage now key log 0 members ≡ dated_going c maxage now 0 (take (i + 1) members) ++ going_with c maxage now key log (i + 1) (drop (i + 1) members)
    parts_more members i m is lt later so =
        so ∙ (ap (λ (xs : List (Path × WhyGone)). dated_going c maxage now 0 (take i members) ++ xs)
        (ap (going_with c maxage now key log i) (next members i m is lt) ∙ (later_one i m (drop (i + 1) members) later ∙ ap (λ (k : ℕ). member_going c maxage now i m ++ going_with c maxage now key log k (drop (i + 1) members)) (let e : suc i ≡ i + 1 = omega arith in e)))
        ∙ (sym (append_assoc (dated_going c maxage now 0 (take i members)) (member_going c maxage now i m) (going_with c maxage now key log (i + 1) (drop (i + 1) members)))
        ∙ ap (λ (xs : List (Path × WhyGone)). xs ++ going_with c maxage now key log (i + 1) (drop (i + 1) members)) (sym (grown_first members i m is lt))))

    pub parts_here : (members : List Member) (i : ℕ) (m : Member) → m ≡ get_or members i m → i < length members → int_lt key (key_in m.place) ≡ false
        → going_with c maxage now key log 0 members ≡ dated_going c maxage now 0 (take i members) ++ going_with c maxage now key log i (drop i members)
        → going_with c maxage now key log 0 members ≡ dated_going c maxage now 0 (take i members) ++ (log i ++ dated_going c maxage now (i + 1) (drop i members))
    parts_here members i m is lt earlier so =
        so ∙ ap (λ (xs : List (Path × WhyGone)). dated_going c maxage now 0 (take i members) ++ xs)
        (ap (going_with c maxage now key log i) (next members i m is lt) ∙ (not_later i m (drop (i + 1) members) earlier
        ∙ (ap (λ (ms : List Member). log i ++ dated_going c maxage now (suc i) ms) (sym (next members i m is lt)) ∙ ap (λ (k : ℕ). log i ++ dated_going c maxage now k (drop i members)) (let e : suc i ≡ i + 1 = omega arith in e))))

    pub parts_end : (members : List Member) (i : ℕ) → length members ≤ i
        → going_with c maxage now key log 0 members ≡ dated_going c maxage now 0 (take i members) ++ going_with c maxage now key log i (drop i members)
        → going_with c maxage now key log 0 members ≡ dated_going c maxage now 0 (take i members) ++ (log i ++ dated_going c maxage now (i + 1) (drop i members))
    parts_end members i le so =
        let none = drop_all i members le in
        so ∙ ap (λ (xs : List (Path × WhyGone)). dated_going c maxage now 0 (take i members) ++ xs)
        (ap (going_with c maxage now key log i) none ∙ (sym (append-nil (log i)) ∙ ap (λ (ms : List Member). log i ++ dated_going c maxage now (i + 1) ms) (sym none)))

    pub with_log : (members : List Member) (p : ℕ) (start a b d : List (Path × WhyGone)) → going_with c maxage now key log 0 members ≡ dated_going c maxage now 0 (take p members) ++ (log p ++ dated_going c maxage now (p + 1) (drop p members))
        → a ≡ start ++ dated_going c maxage now 0 (take p members) → b ≡ a ++ log p → d ≡ b ++ dated_going c maxage now (p + 1) (drop p members) → d ≡ start ++ going_with c maxage now key log 0 members
    with_log members p start a b d parts first second third =
        third ∙ (ap (λ (xs : List (Path × WhyGone)). xs ++ dated_going c maxage now (p + 1) (drop p members)) (second ∙ ap (λ (xs : List (Path × WhyGone)). xs ++ log p) first)
        ∙ (append_assoc (start ++ dated_going c maxage now 0 (take p members)) (log p) (dated_going c maxage now (p + 1) (drop p members))
        ∙ (append_assoc start (dated_going c maxage now 0 (take p members)) (log p ++ dated_going c maxage now (p + 1) (drop p members))
        ∙ ap (λ (xs : List (Path × WhyGone)). start ++ xs) (sym parts))))

-- ---- the log's new name

pub stamp_is : (clock : Clock) (log : LogPlan) (r : Option (ℤ × ℕ)) → IsStamped clock log → IsSome log.naming.dated → ((t : ℤ) (k : ℕ) → (r ≡ Some (t, k)) ↔ IsDatedAt log.naming t k log.ready.target) → r ≡ Some (new_seconds clock log, new_serial clock log)
stamp_is clock log r stamped some reads = go log.naming.dated refl
  where
    go : (d : Option Format) → log.naming.dated ≡ d → r ≡ Some (new_seconds clock log, new_serial clock log)
    go None e = absurd (let none : false ≡ true = subst (λ (d : Option Format). is_some d ≡ true) e some in cc none)
    go (Some f) e = (reads (new_seconds clock log) (new_serial clock log)).1 (stamped.stamped f e)

-- ---- one log, and logs that share their scripts

pub stamped_all : (clock : Clock) (log : LogPlan) (n : Count) (maxage : Option ℕ) (now t : ℤ) (k : ℕ) (place : Place) (members : List Member) (start after : List (Path × WhyGone)) → IsSome log.naming.dated → n ≡ log.count → maxage ≡ log.maxage → now ≡ clock.now.seconds
    → t ≡ new_seconds clock log → k ≡ new_serial clock log → place ≡ at.Stamp t k → members ≡ log.stand.members → after ≡ start ++ going_with n maxage now (key_in place) (log_going log.count log.job log.ready.log) 0 members → after ≡ start ++ newest_going log.naming.dated clock log
stamped_all clock log n maxage now t k place members start after some en ea ew et ek ep em more =
    more
    ∙ (ap (λ (x : Count). start ++ going_with x maxage now (key_in place) own 0 members) en
    ∙ (ap (λ (x : Option ℕ). start ++ going_with log.count x now (key_in place) own 0 members) ea
    ∙ (ap (λ (x : ℤ). start ++ going_with log.count log.maxage x (key_in place) own 0 members) ew
    ∙ (ap (λ (x : Place). start ++ going_with log.count log.maxage clock.now.seconds (key_in x) own 0 members) ep
    ∙ (ap (λ (x : ℤ). start ++ going_with log.count log.maxage clock.now.seconds (stamp_key x k) own 0 members) et
    ∙ (ap (λ (x : ℕ). start ++ going_with log.count log.maxage clock.now.seconds (stamp_key (new_seconds clock log) x) own 0 members) ek
    ∙ (ap (λ (x : List Member). start ++ going_with log.count log.maxage clock.now.seconds (stamp_key (new_seconds clock log) (new_serial clock log)) own 0 x) em
    ∙ by_dates log.naming.dated refl)))))))
  where
    own : ℕ → List (Path × WhyGone)
    own = log_going log.count log.job log.ready.log

    by_dates : (d : Option Format) → log.naming.dated ≡ d → start ++ going_with log.count log.maxage clock.now.seconds (stamp_key (new_seconds clock log) (new_serial clock log)) own 0 log.stand.members ≡ start ++ newest_going log.naming.dated clock log
    by_dates None e = absurd (let none : false ≡ true = subst (λ (d : Option Format). is_some d ≡ true) e some in cc none)
    by_dates (Some f) e = ap (λ (d : Option Format). start ++ newest_going d clock log) (sym e)

pub shared_more : (clock : Clock) (set : SetPlan) (logs : List LogPlan) (start a d : List (Path × WhyGone)) → set.shared ≡ true → logs ≡ set.logs → a ≡ start ++ flat_map leftovers_of logs → d ≡ a ++ flat_map (retired_of clock) logs → d ≡ start ++ set_removed clock set
shared_more clock set logs start a d shared same first second =
    second ∙ (ap (λ (xs : List (Path × WhyGone)). xs ++ flat_map (retired_of clock) logs) first
    ∙ (append_assoc start (flat_map leftovers_of logs) (flat_map (retired_of clock) logs)
    ∙ (ap (λ (ls : List LogPlan). start ++ (flat_map leftovers_of ls ++ flat_map (retired_of clock) ls)) same
    ∙ ap (λ (b : Bool). start ++ cond b (flat_map leftovers_of set.logs ++ flat_map (retired_of clock) set.logs) (flat_map (log_removed clock) set.logs)) (sym shared))))
