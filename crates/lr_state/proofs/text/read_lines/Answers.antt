use Rattle.std.proofs.Common.{◌≡◌, ◌∙◌, ap, sym, subst, ℕ, List, ◌∷◌, ◌+◌, length, Option, option_map, Err, arith}
use Rattle.lr_rules.specs.declared.fault.StateKind.{StateKind}
use Rattle.std.specs.Borrow.{Bor}
use Rattle.lr_state.specs.Grammar.{LinesSay, lines_behind}
use Rattle.lr_state.specs.Reading.{seen}
use Rattle.lr_state.proofs.Left.{left_len, shorter-left, fault-only, next-onward, next-back}
use Rattle.lr_state.proofs.text.read_lines.Goals as goal

pub returns-in-Err-Fault-clause-only : goal.returns-in-Err-Fault-clause-only
returns-in-Err-Fault-clause-only c said h =
    let lines : lines_behind (option_map seen c.loop-left.left) ≡ c.cut_line.result.0.now ∷ lines_behind (option_map seen c.cut_line.result.1) =
    ap (λ (o : Option (Bor (List ℕ))). lines_behind (option_map seen o)) c.in-Some.is ∙ c.cut_line.ensures.lines in
    let here = subst (λ (ls : List (List ℕ)). LinesSay c.loop-left.number c.loop-left.state ls said) lines (c.loop-left.invariant.back said h) in
    let only = rw c.in-Err-Fault.field-0-is at c.in-Err-Fault.ensures in
    fault-only c.loop-left.number c.loop-left.state c.cut_line.result.0.now _ c.in-Err-Fault.kind said only here ∙ ap (λ (k : StateKind). Err (c.loop-left.number, k)) (sym c.in-Err-Fault.kind-is)

pub loop-left-preserved : goal.loop-left-preserved
loop-left-preserved c =
    let lines : lines_behind (option_map seen c.loop-left.left) ≡ c.cut_line.result.0.now ∷ lines_behind (option_map seen c.cut_line.result.1) =
    ap (λ (o : Option (Bor (List ℕ))). lines_behind (option_map seen o)) c.in-Some.is ∙ c.cut_line.ensures.lines in
    let left : left_len c.loop-left.left ≡ length c.in-Some.text.now + 1 = ap left_len c.in-Some.is in
    let short = shorter-left c.cut_line.result.1 (length c.in-Some.text.now) c.cut_line.ensures.shorter in
    let room = c.loop-left.invariant.room in
    record {
      room = omega (arith, left, short);
      onward = λ said h. c.loop-left.invariant.onward said (subst (λ (ls : List (List ℕ)). LinesSay c.loop-left.number c.loop-left.state ls said) (sym lines)
          (next-onward c.loop-left.number c.loop-left.state c.add_line.new.state c.cut_line.result.0.now _ said c.in-Ok.ensures h));
      back = λ said h. next-back c.loop-left.number c.loop-left.state c.add_line.new.state c.cut_line.result.0.now _ said c.in-Ok.ensures
          (subst (λ (ls : List (List ℕ)). LinesSay c.loop-left.number c.loop-left.state ls said) lines (c.loop-left.invariant.back said h));
    }
