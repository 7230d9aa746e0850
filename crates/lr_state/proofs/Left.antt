-- The lines that are left to read.
use Rattle.std.proofs.Common.{◌≡◌, ◌∙◌, ap, subst, ℕ, List, ◌∷◌, ◌+◌, ◌<◌, ◌≤◌, length, Option, Some, None, IfSome, Ok, Err, inl, inr, arith}
use Rattle.std.specs.Borrow.{Bor}
use Rattle.lr_rules.specs.declared.fault.StateKind.{StateKind}
use Rattle.lr_state.specs.Answer.{LineSaysOnly}
use Rattle.lr_state.specs.Grammar.{StateSaid, LinesSay}
use Rattle.lr_state.specs.Table.{StateEntry}

-- how many bytes are left, and one more for a line
abbrev pub left_len : Option (Bor (List ℕ)) → ℕ
left_len None = 0
left_len (Some text) = length text.now + 1

pub shorter-left : (rest : Option (Bor (List ℕ))) (n : ℕ) → IfSome rest (λ r. length r.now < n) → left_len rest ≤ n
shorter-left None n h = omega arith
shorter-left (Some r) n h = omega arith

pub fault-only : (number : ℕ) (before : List StateEntry) (line : List ℕ) (more : List (List ℕ)) (kind : StateKind) (said : StateSaid)
    → LineSaysOnly before line (Err kind) → LinesSay number before (line ∷ more) said → said ≡ Err (number, kind)
fault-only number before line more kind said only (inl h) =
    let same : Err h.0 ≡ Err kind = only.1 (Err h.0) h.1 in
    let kinds : h.0 ≡ kind = cc same in
    h.2 ∙ ap (λ (k : StateKind). Err (number, k)) kinds
fault-only number before line more kind said only (inr h) =
    let never : Ok h.0 ≡ Err kind = only.1 (Ok h.0) h.1 in
    absurd (cc never)

pub next-onward : (number : ℕ) (before after : List StateEntry) (line : List ℕ) (more : List (List ℕ)) (said : StateSaid)
    → LineSaysOnly before line (Ok after) → LinesSay (number + 1) after more said → LinesSay number before (line ∷ more) said
next-onward number before after line more said only h = inr (after, only.0, h)

pub next-back : (number : ℕ) (before after : List StateEntry) (line : List ℕ) (more : List (List ℕ)) (said : StateSaid)
    → LineSaysOnly before line (Ok after) → LinesSay number before (line ∷ more) said → LinesSay (number + 1) after more said
next-back number before after line more said only (inl h) =
    let never : Err h.0 ≡ Ok after = only.1 (Err h.0) h.1 in
    absurd (cc never)
next-back number before after line more said only (inr h) =
    let same : Ok h.0 ≡ Ok after = only.1 (Ok h.0) h.1 in
    let tables : h.0 ≡ after = cc same in
    subst (λ (t : List StateEntry). LinesSay (number + 1) t more said) tables h.2
