-- A text that is split at its slashes.
use Rattle.std.proofs.Common.{ℕ, Bool, true, false, cond, List, [], ◌∷◌}
use Rattle.std.specs.List.{slice_split, onto_first}
use Rattle.lr_rules.specs.Path.{is_slash}

-- a list of parts has one at least
pub data Parts : List (List ℕ) → Type 0 where
  some_parts : (q : List ℕ) (qs : List (List ℕ)) → Parts (q ∷ qs)

pub split_parts : (bs : List ℕ) → Parts (slice_split is_slash bs)
split_parts [] = some_parts [] []
split_parts (b ∷ bs) = by (is_slash b) (slice_split is_slash bs)
  where
    by : (s : Bool) (ps : List (List ℕ)) → Parts (cond s ([] ∷ ps) (onto_first b ps))
    by true ps = some_parts [] ps
    by false [] = some_parts (b ∷ []) []
    by false (q ∷ qs) = some_parts (b ∷ q) qs
