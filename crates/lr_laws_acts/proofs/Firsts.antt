-- First parts of lists of entries.
use Rattle.std.proofs.Common.{sym, ◌∙◌, ap, List, ◌++◌, append_assoc}
use Rattle.lr_host.specs.declared.entry.Entry.{Entry}
use Rattle.lr_laws_family.specs.Weave.{IsFirstOf}

-- of more
pub first_longer : (xs ys ts : List Entry) → IsFirstOf xs ts → IsFirstOf (xs ++ ys) ts
first_longer xs ys ts f = (f.0 ++ ys, ap (λ zs. zs ++ ys) f.1 ∙ append_assoc ts f.0 ys)

-- behind others
pub first_behind : (xs ys ts : List Entry) → IsFirstOf ys ts → IsFirstOf (xs ++ ys) (xs ++ ts)
first_behind xs ys ts f = (f.0, ap (λ zs. xs ++ zs) f.1 ∙ sym (append_assoc xs ts f.0))
