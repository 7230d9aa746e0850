-- A path with `.tmp` behind it is another one, and stands in the same directory.
use Rattle.std.proofs.Common.{◌≡◌, ◌≢◌, ◌+◌, sym, ap, arith, ◌++◌, length, ℕ, ◌-◌, List, ◌∙◌, nat_lt, cond, Bool, true, false, take}
use Rattle.std.proofs.lemmas.List.{length-append, reverse-append, take-append-le}
use Rattle.std.specs.Prelude.{codes}
use Rattle.std.specs.List.{suffix_len, prefix_len}
use Rattle.lr_rules.specs.declared.path.Path.{Path}
use Rattle.lr_rules.specs.StatePath.{state_part}
use Rattle.lr_rules.specs.Path.{is_no_slash, last_start_of, parent_of}

pub beside_other : (path : List ℕ) → path ≢ path ++ codes ".tmp"
beside_other path e =
    let long : length (path ++ codes ".tmp") ≡ length path + 4 = length-append path (codes ".tmp") in
    let same : length path ≡ length (path ++ codes ".tmp") = ap length e in
    omega (arith, long, same)

pub part_apart : (state : Path) → state_part state ≢ state
part_apart state e = beside_other state (sym e)

pub tail_len : (path : List ℕ) → suffix_len is_no_slash (path ++ codes ".tmp") ≡ 4 + suffix_len is_no_slash path
tail_len path = let e : suffix_len is_no_slash (path ++ codes ".tmp") ≡ 1 + (1 + (1 + (1 + suffix_len is_no_slash path))) = ap (prefix_len is_no_slash) (reverse-append path (codes ".tmp")) in omega (arith, e)

pub start_same : (path : List ℕ) → last_start_of (path ++ codes ".tmp") ≡ last_start_of path
start_same path =
    let a : suffix_len is_no_slash (path ++ codes ".tmp") ≡ 4 + suffix_len is_no_slash path = tail_len path in
    let b : length (path ++ codes ".tmp") ≡ length path + 4 = length-append path (codes ".tmp") in
    omega (arith, a, b)

pub parent_same : (path : List ℕ) → parent_of (path ++ codes ".tmp") ≡ parent_of path
parent_same path = ap (λ s. cond (nat_lt 1 s) (take (s - 1) (path ++ codes ".tmp")) (take s (path ++ codes ".tmp"))) (start_same path) ∙ go (nat_lt 1 (last_start_of path))
  where
    go : (b : Bool) → cond b (take (last_start_of path - 1) (path ++ codes ".tmp")) (take (last_start_of path) (path ++ codes ".tmp")) ≡ cond b (take (last_start_of path - 1) path) (take (last_start_of path) path)
    go true = take-append-le (last_start_of path - 1) path (codes ".tmp") (omega arith)
    go false = take-append-le (last_start_of path) path (codes ".tmp") (omega arith)
