-- The lines of members and of definitions, one more each.
use Rattle.std.proofs.Common.{◌≡◌, ◌<◌, ◌+◌, ℕ, zero, suc, List, [], ◌∷◌, ◌++◌, length, take, get_or, Option, sym, ap, ◌∙◌, arith, append_assoc, length-take, subst}
use Rattle.std.specs.Prelude.{All}
use Rattle.std.proofs.lemmas.List.{append-nil, take_more}
use Rattle.lr_rules.specs.declared.path.Path.{Path}
use Rattle.lr_rules.specs.declared.rule.Count.{Count}
use Rattle.lr_rules.specs.declared.rule.Format.{Format}
use Rattle.lr_rules.specs.declared.rule.Rule.{Rule}
use Rattle.lr_family.specs.declared.stand.Member.{Member}
use Rattle.lr_plan.specs.declared.looks.SetLooks.{SetLooks}
use Rattle.lr_plan.specs.Planned.{CanPlan, CanPlanAll}
use Rattle.lr_audited.specs.declared.line.Line.{Line}
use Rattle.lr_audited.specs.Lines.{log_file_line, what_of, member_lines, rule_lines, sets_lines}

members_snoc : (d : Option Format) (c : Count) (log : Path) (k : ℕ) (xs : List Member) (m : Member)
    → member_lines d c log k (xs ++ m ∷ []) ≡ member_lines d c log k xs ++ log_file_line m.path (what_of d c (k + length xs) m) log ∷ []
members_snoc d c log k [] m = ap (λ (j : ℕ). log_file_line m.path (what_of d c j m) log ∷ []) (let e : k ≡ k + 0 = omega arith in e)
members_snoc d c log k (x ∷ xs) m =
    ap (λ (ls : List Line). log_file_line x.path (what_of d c k x) log ∷ ls) (members_snoc d c log (suc k) xs m
    ∙ ap (λ (j : ℕ). member_lines d c log (suc k) xs ++ log_file_line m.path (what_of d c j m) log ∷ []) (let e : suc k + length xs ≡ k + suc (length xs) = omega arith in e))

pub members_more : (d : Option Format) (c : Count) (log : Path) (members : List Member) (i : ℕ) (m : Member) (start before after : List Line) → m ≡ get_or members i m → i < length members
    → before ≡ start ++ member_lines d c log 0 (take i members) → after ≡ before ++ log_file_line m.path (what_of d c i m) log ∷ [] → after ≡ start ++ member_lines d c log 0 (take (i + 1) members)
members_more d c log members i m start before after is lt so more =
    more ∙ (ap (λ (ls : List Line). ls ++ log_file_line m.path (what_of d c i m) log ∷ []) so
    ∙ (append_assoc start (member_lines d c log 0 (take i members)) (log_file_line m.path (what_of d c i m) log ∷ [])
    ∙ ap (λ (ls : List Line). start ++ ls) (ap (λ (j : ℕ). member_lines d c log 0 (take i members) ++ log_file_line m.path (what_of d c j m) log ∷ []) (sym count)
    ∙ (sym (members_snoc d c log 0 (take i members) m) ∙ ap (member_lines d c log 0) (sym grown)))))
  where
    count : 0 + length (take i members) ≡ i
    count = let k = length-take i members in omega (arith, k, lt)

    grown : take (i + 1) members ≡ take i members ++ m ∷ []
    grown = take_more members i m lt ∙ ap (λ x. take i members ++ x ∷ []) (sym is)

-- ---- definitions

pub can_at : (rules : List Rule) (sets : List SetLooks) (at : ℕ) (set : SetLooks) → CanPlanAll rules sets → at < length rules → set ≡ get_or sets at set → All CanPlan set.logs
can_at [] sets at set can lt e = absurd (omega (arith, lt))
can_at (r ∷ rules) [] at set can lt e = absurd can
can_at (r ∷ rules) (s ∷ sets) zero set can lt e = subst (λ (x : SetLooks). All CanPlan x.logs) (sym e) can.0.each
can_at (r ∷ rules) (s ∷ sets) (suc at) set can lt e = can_at rules sets at set can.1 (omega (arith, lt)) e

sets_step : (rules : List Rule) (sets : List SetLooks) (at : ℕ) (rule : Rule) (set : SetLooks) → at < length rules → length sets ≡ length rules → rule ≡ get_or rules at rule → set ≡ get_or sets at set
    → sets_lines (take (suc at) rules) (take (suc at) sets) ≡ sets_lines (take at rules) (take at sets) ++ rule_lines rule set.logs
sets_step [] sets at rule set lt same e f = absurd (omega arith)
sets_step (r ∷ rules) [] at rule set lt same e f = absurd (omega (arith, same))
sets_step (r ∷ rules) (s ∷ sets) zero rule set lt same e f =
    append-nil (rule_lines r s.logs) ∙ (ap (λ (q : Rule). rule_lines q s.logs) (sym e) ∙ ap (λ (x : SetLooks). rule_lines rule x.logs) (sym f))
sets_step (r ∷ rules) (s ∷ sets) (suc at) rule set lt same e f =
    ap (λ (ls : List Line). rule_lines r s.logs ++ ls) (sets_step rules sets at rule set (omega arith) (omega (arith, same)) e f)
    ∙ sym (append_assoc (rule_lines r s.logs) (sets_lines (take at rules) (take at sets)) (rule_lines rule set.logs))

pub sets_more : (rules : List Rule) (sets : List SetLooks) (at : ℕ) (rule : Rule) (set : SetLooks) (start before after : List Line) → at < length rules → length sets ≡ length rules → rule ≡ get_or rules at rule → set ≡ get_or sets at set
    → before ≡ start ++ sets_lines (take at rules) (take at sets) → after ≡ before ++ rule_lines rule set.logs → after ≡ start ++ sets_lines (take (at + 1) rules) (take (at + 1) sets)
sets_more rules sets at rule set start before after lt same e f so more =
    more ∙ (ap (λ (ls : List Line). ls ++ rule_lines rule set.logs) so
    ∙ (append_assoc start (sets_lines (take at rules) (take at sets)) (rule_lines rule set.logs)
    ∙ ap (λ (ls : List Line). start ++ ls) (sym (sets_step rules sets at rule set lt same e f) ∙ ap (λ (j : ℕ). sets_lines (take j rules) (take j sets)) (let n : suc at ≡ at + 1 = omega arith in n))))
