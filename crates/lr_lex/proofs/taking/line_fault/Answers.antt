use Rattle.std.proofs.Common.{◌≡◌, ◌⊎◌, inl, inr, List, Err, ◌∷◌, arith}
use Rattle.lr_lex.specs.declared.item.LexKind.{LexKind}
use Rattle.lr_lex.specs.declared.item.LexKind.TheVariants as kind
use Rattle.lr_lex.specs.Items.{Told, items}
use Rattle.lr_lex.proofs.Stepping.{other_kind, line_begins, line_faults, line_of_first, small}
use Rattle.lr_lex.proofs.taking.line_fault.Goals as goal

not_memory : (k : LexKind) → (k ≡ kind.LineTooLong) ⊎ ((k ≡ kind.NotUtf8) ⊎ (k ≡ kind.OpenQuote)) → k ≡ kind.Memory → ⊥
not_memory k (inl a) e = cc (a, e)
not_memory k (inr (inl a)) e = cc (a, e)
not_memory k (inr (inr a)) e = cc (a, e)

not_end : (k : LexKind) → (k ≡ kind.LineTooLong) ⊎ ((k ≡ kind.NotUtf8) ⊎ (k ≡ kind.OpenQuote)) → k ≡ kind.NoEndscript → ⊥
not_end k (inl a) e = cc (a, e)
not_end k (inr (inl a)) e = cc (a, e)
not_end k (inr (inr a)) e = cc (a, e)

pub keep_line-requires-clause-begun : goal.keep_line-requires-clause-begun
keep_line-requires-clause-begun c =
    let e = other_kind c.args.fault.kind (Unit {0}) ((us : List Told) × (items c.args.held.now.bytes.items ≡ Err c.args.fault ∷ us)) c.requires.first (λ m. cc (m, c.in-NoEndscript.is)) in
    line_begins c.args.held.now c.requires.held c.requires.begun c.requires.next c.args.fault e.0 e.1 c.in-NoEndscript.is

pub take_fault-requires : goal.take_fault-requires
take_fault-requires c =
    let e = other_kind c.args.fault.kind (Unit {0}) ((us : List Told) × (items c.args.held.now.bytes.items ≡ Err c.args.fault ∷ us)) c.requires.first (not_memory c.args.fault.kind c.in-LineTooLong.is) in
    record {
      held = c.requires.held;
      near = let a = line_of_first c.args.held.now c.requires.held c.requires.begun c.requires.next (Err c.args.fault) e.0 e.1 in let b = (small c.args.held.now c.requires.held c.requires.next).0 in omega (arith, a, b);
      tells = line_faults c.args.held.now c.requires.held c.requires.begun c.requires.next c.args.fault e.0 e.1 (not_end c.args.fault.kind c.in-LineTooLong.is);
    }
