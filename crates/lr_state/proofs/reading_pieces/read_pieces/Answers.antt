use Rattle.std.proofs.Common.{[], ◌∷◌, ◌++◌, length, refl, sym, ap, subst, arith, rules, length-append}
use Rattle.lr_host.proofs.Left.{left_first, can_stay}
use Rattle.lr_state.specs.Given.{HasTaken}
use Rattle.lr_state.proofs.Joining.{bytes_more, go_more, entries_more, stopped_at, names_stay, whole_at, on_stop}
use Rattle.lr_state.specs.ReadPieces.{bytes_of}
use Rattle.lr_state.proofs.reading_pieces.read_pieces.Goals as goal

pub loop-next-init : goal.loop-next-init
loop-next-init g c = record { pieces = []; goes = (tt, omega arith); place = refl; taken = c.requires.fresh; told = left_first _ _ refl; file = c.requires.file; size = refl; counts = search rules }

pub returns-in_err-next-clause-stopped : goal.returns-in_err-next-clause-stopped
returns-in_err-next-clause-stopped g c = on_stop c.from_residual.result _ _ (c.from_residual.ensures.1)
    (stopped_at c.args.path.now (length c.args.buffer.now) c.loop-next.invariant.pieces c.loop-next.at _ c.loop-next.invariant.goes c.loop-next.invariant.place c.loop-next.invariant.told (rw c.loop-next.invariant.size at c.in_err-next.ensures.stopped))

pub loop-next-preserved : goal.loop-next-preserved
loop-next-preserved g c =
    let r = rw c.in-Some.is at c.in_ok-next.ensures.told in
    let pieces = c.loop-next.invariant.pieces in
    let more = ap length (bytes_more pieces r.piece) in
    let sum = length-append (bytes_of pieces) r.piece in record {
      pieces = pieces ++ r.piece ∷ [];
      goes = go_more (length c.args.buffer.now) pieces r.piece c.loop-next.invariant.goes r.follows.0 (omega (arith, r.short, c.loop-next.invariant.size)) (omega (arith, r.follows.1, r.follows.2, c.loop-next.invariant.place));
      place = omega (arith, r.follows.1, c.loop-next.invariant.place, more, sum);
      taken = subst (HasTaken c.read_on.new.reader) (sym (bytes_more pieces r.piece)) (r.taken (bytes_of pieces) c.loop-next.invariant.taken);
      told = entries_more c.args.path.now pieces c.loop-next.at r.piece c.loop-next.invariant.place c.loop-next.invariant.told r.entries;
      file = can_stay c.loop-next.invariant.file r.entries (names_stay c.args.path.now c.loop-next.at r.piece);
      size = omega (arith, c.read_on.auto.buffer, c.loop-next.invariant.size);
      counts = search rules;
    }

pub returns-clause-told : goal.returns-clause-told
returns-clause-told g c =
    let r = rw c.in_default.is at c.in_ok-next.ensures.told in
    whole_at c.args.path.now (length c.args.buffer.now) c.loop-next.invariant.pieces c.loop-next.at (length c.loop-next.buffer) _ _ c.loop-next.invariant.goes c.loop-next.invariant.place c.loop-next.invariant.size c.loop-next.invariant.taken c.loop-next.invariant.told r
