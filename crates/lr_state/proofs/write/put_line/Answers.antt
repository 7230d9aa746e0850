use Rattle.std.proofs.Common.{◌≡◌, ap, sym, subst, List, ℕ, [], ◌∷◌, ◌++◌, append_assoc}
use Rattle.std.specs.List.{flat_map}
use Rattle.lr_rules.specs.declared.civil.Civil.{Civil}
use Rattle.lr_state.specs.Piece.{WritesPiece}
use Rattle.lr_state.specs.Written.{escaped, moment_text, line_text, entry_line}
use Rattle.lr_state.proofs.Pieces.{then_writes}
use Rattle.lr_state.proofs.write.put_line.Goals as goal

grouped : (name : List ℕ) (at : Civil) → 34 ∷ (flat_map escaped name ++ 34 ∷ (32 ∷ (moment_text at ++ 10 ∷ []))) ≡ entry_line (name, at)
unfolding line_text
grouped name at = ap (λ xs. 34 ∷ xs) (sym (append_assoc (flat_map escaped name) (34 ∷ (32 ∷ moment_text at)) (10 ∷ [])))

pub returns-clause-written : goal.returns-clause-written
returns-clause-written c =
    subst (λ (p : List ℕ). WritesPiece c.args.into.now 0 c.put_byte.new.into c.put_byte.result p) (grouped c.args.name.now c.args.at.now)
    (then_writes c.args.into.now _ _ 0 _ _ _ _ c.put_byte-quote.ensures (then_writes _ _ _ _ _ _ _ _ c.put_name-name.ensures.written
    (then_writes _ _ _ _ _ _ _ _ c.put_byte-quote-2.ensures (then_writes _ _ _ _ _ _ _ _ c.put_byte-blank.ensures
    (then_writes _ _ _ _ _ _ _ _ c.put_moment-moment.ensures.written c.put_byte.ensures)))))
