-- Which logs are kept is fixed by the paths and the names of those that were found.
use Rattle.std.proofs.Common.{◌≡◌, ℕ, zero, suc, Bool, List, [], ◌∷◌, length, map, Some, slice_get, refl, sym, ap, ◌∙◌, subst}
use Rattle.std.specs.Borrow.{Bor}
use Rattle.std.proofs.lemmas.List.{length-map}
use Rattle.std.proofs.lemmas.Option.{same_Some}
use Rattle.lr_rules.specs.declared.path.Path.{Path}
use Rattle.lr_rules.specs.declared.rule.Naming.{Naming}
use Rattle.lr_rules.specs.Names.{Meet, IsName}
use Rattle.lr_family.specs.declared.family.Family.{Family}
use Rattle.lr_family.specs.Parts.{IsMember}
use Rattle.lr_kept.specs.declared.choice.Choice.{Choice}
use Rattle.lr_kept.specs.declared.choice.Choice.TheVariants.{Kept, Again, MemberOf, Reserved, Meets}
use Rattle.lr_kept.specs.Chosen.{BothLogs, HaveOnePath, IsMemberOf, IsMatchedMember, HasReserved, MeetAt, IsNew, IsChoice, AreChosen}
use Rattle.lr_kept.proofs.Fixed.{one_choice}
use Rattle.lr_looks.specs.Choices.{chosen_names, is_wild, IsChoiceAmong}
use Rattle.lr_looks.specs.Found.{FoundLog}

-- the path of a log, and the names of its members
abbrev Named : Type 0
Named = Path × Naming

-- the first are one
head_of : (x y : Named) (xs ys : List Named) → x ∷ xs ≡ y ∷ ys → x ≡ y
head_of x y xs ys e = cc

-- and the others the same
tail_of : (x y : Named) (xs ys : List Named) → x ∷ xs ≡ y ∷ ys → xs ≡ ys
tail_of x y xs ys e = cc

-- at each place stands one with the same path and names
read_alike : (logs more : List (Bor Family)) → map chosen_names logs ≡ map chosen_names more → (k : ℕ) (x : Bor Family) → slice_get logs k ≡ Some x → (y : Bor Family) × (slice_get more k ≡ Some y) × (chosen_names x ≡ chosen_names y)
read_alike [] more e k x h = absurd (cc h)
read_alike (z ∷ zs) [] e k x h = absurd (cc e)
read_alike (z ∷ zs) (y ∷ ys) e zero x h = (y, refl, ap chosen_names (sym (same_Some z x h)) ∙ head_of (chosen_names z) (chosen_names y) (map chosen_names zs) (map chosen_names ys) e)
read_alike (z ∷ zs) (y ∷ ys) e (suc k) x h = read_alike zs ys (tail_of (chosen_names z) (chosen_names y) (map chosen_names zs) (map chosen_names ys) e) k x h

module _ (logs more : List (Bor Family)) (e : map chosen_names logs ≡ map chosen_names more) where
  -- what holds of the paths and names at two places does so in both
  both_to : (Q : Named → Named → Type 0) (i k : ℕ) → BothLogs (λ f g. Q (f.log, f.naming) (g.log, g.naming)) logs i k → BothLogs (λ f g. Q (f.log, f.naming) (g.log, g.naming)) more i k
  both_to Q i k b =
      let x = read_alike logs more e i b.one b.at_one in
      let y = read_alike logs more e k b.other b.at_other in
      record { one = x.0; other = y.0; at_one = x.1; at_other = y.1; holds = subst (λ v. Q v (chosen_names y.0)) x.2 (subst (Q (chosen_names b.one)) y.2 b.holds) }

  -- so does it that they have one path
  path_to : (i k : ℕ) → HaveOnePath logs i k → HaveOnePath more i k
  path_to i k b = both_to (λ v w. v.0 ≡ w.0) i k b

  -- and that they meet
  meet_to : (i k : ℕ) → MeetAt logs i k → MeetAt more i k
  meet_to i k b = both_to (λ v w. Meet v.0 v.1 w.0 w.1) i k b

  -- and that the one is a member of the other
  member_to : (i k : ℕ) → IsMemberOf logs i k → IsMemberOf more i k
  member_to i k b = both_to (λ v w. IsMember v.1 w.0) i k b

  -- and that a name of one is reserved
  has_to : (reserved : List Path) (k i : ℕ) → HasReserved logs reserved k i → HasReserved more reserved k i
  has_to reserved k i b =
      let x = read_alike logs more e k b.log b.at_log in
      record { log = x.0; path = b.path; at_log = x.1; at_path = b.at_path; named = subst (λ (v : Named). IsName v.0 v.1 b.path) x.2 b.named }

-- a path that wasn't found before
new_to : (logs more : List (Bor Family)) → map chosen_names logs ≡ map chosen_names more → (k : ℕ) → IsNew logs k → IsNew more k
new_to logs more e k h i lt b = h i lt (path_to more logs (sym e) i k b)

-- a wildcard's match that is a member of another log
matched_to : (logs more : List (Bor Family)) → map chosen_names logs ≡ map chosen_names more → (wild : List Bool) (k i : ℕ) → IsMatchedMember logs wild k i → IsMatchedMember more wild k i
matched_to logs more e wild k i h = record { matched = h.matched; other = h.other; new = new_to logs more e i h.new; member = member_to logs more e i k h.member }

module _ (logs more : List (Bor Family)) (e : map chosen_names logs ≡ map chosen_names more) (wild : List Bool) (reserved : List Path) (choices : List Choice) where
  new : (k : ℕ) → IsNew logs k → IsNew more k
  new = new_to logs more e

  -- it is none of another log's
  no_member : (k : ℕ) → ((i : ℕ) → IsMatchedMember logs wild k i → ⊥) → (i : ℕ) → IsMatchedMember more wild k i → ⊥
  no_member k h i m = h i (matched_to more logs (sym e) wild k i m)

  -- a choice
  choice_to : (k : ℕ) (c : Choice) → IsChoice logs wild reserved choices k c → IsChoice more wild reserved choices k c
  choice_to k Kept h = record { new = new k h.new; no_member = no_member k h.no_member; free = λ j b. h.free j (has_to more logs (sym e) reserved k j b); apart = λ j lt kept b. h.apart j lt kept (meet_to more logs (sym e) j k b) }
  choice_to k (Again i) h = record { before = h.before; same = path_to logs more e i k h.same; first = λ j lt b. h.first j lt (path_to more logs (sym e) j k b) }
  choice_to k (MemberOf i) h = record { new = new k h.new; is = matched_to logs more e wild k i h.is; first = λ j lt m. h.first j lt (matched_to more logs (sym e) wild k j m) }
  choice_to k (Reserved i) h = record { new = new k h.new; no_member = no_member k h.no_member; has = has_to logs more e reserved k i h.has; first = λ j lt b. h.first j lt (has_to more logs (sym e) reserved k j b) }
  choice_to k (Meets i) h = record { new = new k h.new; no_member = no_member k h.no_member; free = λ j b. h.free j (has_to more logs (sym e) reserved k j b); before = h.before; kept = h.kept; meet = meet_to logs more e i k h.meet; first = λ j lt kept b. h.first j lt kept (meet_to more logs (sym e) j k b) }

  -- the choices are those for any logs with the same paths and names
  chosen_to : AreChosen logs wild reserved choices → AreChosen more wild reserved choices
  chosen_to h = record { as_many = h.as_many ∙ (sym (length-map logs chosen_names) ∙ (ap length e ∙ length-map more chosen_names)); each = λ k c at. choice_to k c (h.each k c at) }

-- there is one choice among the logs that were found
pub choices_one : (reserved : List Path) (found : List FoundLog) (choices others : List Choice) → IsChoiceAmong reserved found choices → IsChoiceAmong reserved found others → choices ≡ others
choices_one reserved found choices others h g = one_choice g.logs (map is_wild found) reserved choices others (chosen_to h.logs g.logs (h.same ∙ sym g.same) (map is_wild found) reserved choices h.chosen) g.chosen
