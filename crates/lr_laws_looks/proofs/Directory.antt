-- The directory of a family is no other name of the set, unless it is the log's, or that where the log waits.
use Rattle.std.proofs.Common.{◌≡◌, ◌≢◌, ℕ, ◌+◌, ◌<◌, true, List, ◌∷◌, ◌++◌, length, length-append, Option, Some, None, sym, ap, ◌∙◌, arith}
use Rattle.lr_rules.specs.declared.path.Path.{Path}
use Rattle.lr_rules.specs.declared.rule.Format.{Format}
use Rattle.lr_rules.specs.declared.rule.Naming.{Naming}
use Rattle.lr_rules.specs.Limits.{is_format, or_none}
use Rattle.lr_rules.specs.Match.{part_end}
use Rattle.lr_rules.specs.Names.{aside_path, IsMiddleShape, IsMemberShape, IsOwnName, the_log, set_aside, a_member, a_part}
use Rattle.lr_host.proofs.Reading.{some_long}
use Rattle.lr_laws_family.proofs.DatedNames.{middle_some}
use Rattle.lr_laws_rotations.proofs.PartFile.{joined_no_dir}

-- ---- what has the shape of a member has a name

middle_long : (d : Option Format) (w : List ℕ) → or_none is_format d ≡ true → IsMiddleShape d w → 0 < length w
middle_long None w good h = let l : length w ≡ length (46 ∷ h.0) = ap length h.1 in omega (arith, l)
middle_long (Some f) w good h = some_long w (middle_some f w good h)

last_some : (n : Naming) (last : List ℕ) → or_none is_format n.dated ≡ true → IsMemberShape n last → 0 < length last
last_some n last good h =
    let whole : length last ≡ length (n.base ++ h.0) + length n.ext = ap length h.2 ∙ length-append (n.base ++ h.0) n.ext in
    let front : length (n.base ++ h.0) ≡ length n.base + length h.0 = length-append n.base h.0 in
    let some : 0 < length h.0 = middle_long n.dated h.0 good h.1 in
    omega (arith, whole, front, some)

pub dir_apart : (log : Path) (n : Naming) → or_none is_format n.dated ≡ true → n.dir ≢ log → (n.aside ≡ true → n.dir ≢ aside_path log) → IsOwnName log n n.dir → ⊥
dir_apart log n good other beside (the_log is) = other is
dir_apart log n good other beside (set_aside on is) = beside on is
dir_apart log n good other beside (a_member last shape is) = joined_no_dir n.dir last (last_some n last good shape) (sym is)
dir_apart log n good other beside (a_part last shape is) = joined_no_dir n.dir (last ++ part_end) (let l : length (last ++ part_end) ≡ length last + length part_end = length-append last part_end in omega (arith, l)) (sym is)
