-- What stands behind the start of a run.
use Rattle.std.proofs.Common.{◌≡◌, List, [], ◌∷◌, ◌++◌, refl, sym, ap, ◌∙◌, append-nil}
use Rattle.lr_host.specs.declared.entry.Entry.{Entry}
use Rattle.lr_host.specs.declared.entry.Entry.TheVariants as entry
use Rattle.lr_host.specs.Quiet.{IsQuiet, AreQuiet}
use Rattle.lr_laws_plan.specs.Looked.{behind_start}

-- an entry that changes nothing starts no run
passed : (e : Entry) (ts : List Entry) → IsQuiet e → behind_start (e ∷ ts) ≡ behind_start ts
passed (entry.Starts state now rules) ts q = let no = q.1 in absurd (cc)
passed _ ts q = refl

pub behind_quiet : (xs ys : List Entry) → AreQuiet xs → behind_start (xs ++ ys) ≡ behind_start ys
behind_quiet [] ys q = refl
behind_quiet (x ∷ xs) ys q = passed x (xs ++ ys) q.0 ∙ behind_quiet xs ys q.1

pub none_behind : (xs : List Entry) → AreQuiet xs → behind_start xs ≡ []
none_behind xs q = sym (ap behind_start (append-nil xs)) ∙ behind_quiet xs [] q
