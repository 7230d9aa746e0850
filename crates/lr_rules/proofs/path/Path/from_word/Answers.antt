use Rattle.std.proofs.Common.{◌≡◌, List, ℕ, None, MatchResult, Result, Err, subst}
use Rattle.lr_rules.specs.declared.path.PathFault.{PathFault}
use Rattle.lr_rules.specs.declared.path.PathFault.TheVariants as fault
use Rattle.lr_rules.specs.Path.{path_fault, cleaned, IsRefusal}
use Rattle.lr_rules.proofs.Cleaned.{clean, not_empty, not_relative}
use Rattle.lr_rules.proofs.path.Path.from_word.Goals as goal

-- what a refusal of these bytes says of them
refused : (bytes cleaned : List ℕ) (r : Result (List ℕ) PathFault) (f : PathFault) → bytes ≡ cleaned
    → MatchResult r (λ path. (path ≡ bytes) × (path_fault path ≡ None)) (IsRefusal (path_fault bytes)) → r ≡ Err f → IsRefusal (path_fault cleaned) f
refused bytes cleaned r f same h e =
    let at : IsRefusal (path_fault bytes) f = subst (λ (r : Result (List ℕ) PathFault). MatchResult r (λ path. (path ≡ bytes) × (path_fault path ≡ None)) (IsRefusal (path_fault bytes))) e h in
    subst (λ (bs : List ℕ). IsRefusal (path_fault bs) f) same at

pub returns-in-Ok-clause-relative : goal.returns-in-Ok-clause-relative
returns-in-Ok-clause-relative c = λ e. absurd (not_relative (cleaned c.bytes.result.now c.args.word.now) (clean c.bytes.result.now c.args.word.now).0
    (refused c.in-Ok.bytes.items (cleaned c.bytes.result.now c.args.word.now) c.from_vec.result fault.Relative c.in-Ok.ensures c.from_vec.ensures e))

pub returns-in-Ok-clause-no_empty_part : goal.returns-in-Ok-clause-no_empty_part
returns-in-Ok-clause-no_empty_part c = λ e. not_empty (cleaned c.bytes.result.now c.args.word.now) (clean c.bytes.result.now c.args.word.now).1
    (refused c.in-Ok.bytes.items (cleaned c.bytes.result.now c.args.word.now) c.from_vec.result fault.EmptyPart c.in-Ok.ensures c.from_vec.ensures e)
