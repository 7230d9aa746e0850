use Rattle.std.proofs.Common.{◌≡◌, ◌≤◌, ◌<◌, ◌++◌, Err, sym, ◌∙◌, subst, take, drop, length, rules, arith}
use Rattle.std.specs.Prelude.{OnErr}
use Rattle.std.specs.List.{flat_map}
use Rattle.std.proofs.lemmas.List.{length-take}
use Rattle.lr_host.specs.Appending.{Appended, AppendBroke}
use Rattle.lr_host.specs.Told.{Left}
use Rattle.lr_state.specs.Written.{entry_line, table_text}
use Rattle.lr_state.proofs.Lengths.{entry-at}
use Rattle.lr_writing.specs.Buffer.{Wrote, WriteBroke, HoldsBack}
use Rattle.lr_writing.proofs.Buffers.{holds_all, holds_more, holds_on, holds_end, holds_broke, holds_stay, broke_more, wrote, write_broke, if_ok, if_err}
use Rattle.lr_writing.proofs.Tables.{text_next, text_rest, text_all}
use Rattle.lr_writing.proofs.text.append_table.Goals as goal

pub loop-k-init : goal.loop-k-init
loop-k-init g c =
    let first = c.put_first-held.ensures.first in record {
      size = c.put_first-held.ensures.same ∙ c.requires.size;
      bound = omega (arith, c.put_first-held.ensures.bound);
      told = subst (λ xs. HoldsBack c.args.path.now xs (take c.put_first-held.result c.put_first-held.new.buffer) (g.H.Host.told c.args.host.now) (g.H.Host.told c.args.host.now)) first
          (holds_all c.args.path.now (take c.put_first-held.result c.put_first-held.new.buffer) (g.H.Host.told c.args.host.now));
      can = c.requires.file;
      counts = search rules;
    }

pub returns-in_err-left-clause-broke : goal.returns-in_err-left-clause-broke
returns-in_err-left-clause-broke g c =
    let at = c.loop-k in
    let table = c.args.table.now in
    let path = c.args.path.now in
    let is : c.from_residual.result ≡ Err c.in_err-left.field-0.0 = search rules in
    subst (λ r. OnErr r (Left (WriteBroke path (table_text table)) (g.H.Host.told c.args.host.now) (g.H.Host.told c.make_room.new.host))) (sym is)
    (subst (λ xs. Left (WriteBroke path xs) (g.H.Host.told c.args.host.now) (g.H.Host.told c.make_room.new.host)) (text_rest table at.k)
    (broke_more path (table_text (take at.k table)) (flat_map entry_line (drop at.k table)) (holds_broke path (table_text (take at.k table)) (take at.held at.buffer) at.invariant.told c.in_err-left.ensures.broke)))

pub loop-k-preserved : goal.loop-k-preserved
loop-k-preserved g c =
    let at = c.loop-k in
    let table = c.args.table.now in
    let path = c.args.path.now in
    let lt : at.k < length table = omega arith in
    let e = entry-at table at.k lt in
    let line = c.add_line-held.ensures.line e.0 e.1 in
    let left = take c.in_ok-left.left at.buffer in record {
      size = c.add_line-held.ensures.same ∙ at.invariant.size;
      bound = omega (arith, c.add_line-held.ensures.bound, at.invariant.size);
      told = subst (λ xs. HoldsBack path xs (take c.add_line-held.result c.add_line-held.new.buffer) (g.H.Host.told c.args.host.now) (g.H.Host.told c.make_room.new.host)) (sym (text_next table at.k e.0 e.1))
          (subst (λ xs. HoldsBack path (table_text (take at.k table) ++ entry_line e.0) xs (g.H.Host.told c.args.host.now) (g.H.Host.told c.make_room.new.host)) (sym line)
          (holds_more path (table_text (take at.k table)) left (entry_line e.0) (holds_on path (table_text (take at.k table)) (take at.held at.buffer) left at.invariant.told c.in_ok-left.ensures.told)));
      can = holds_stay path (take at.held at.buffer) left at.invariant.can c.in_ok-left.ensures.told;
      counts = search rules;
    }

pub returns-clause-told : goal.returns-clause-told
returns-clause-told g c =
    let at = c.loop-k in
    let table = c.args.table.now in
    let path = c.args.path.now in
    let end : at.k ≡ length table = omega arith in
    let short : length (take at.held at.buffer) ≤ 65_536 = grind (arith, length-take) in
    if_ok c.append_all.result (Left (Appended path (take at.held at.buffer)) (g.H.Host.told at.host) (g.H.Host.told c.append_all.new.host)) (Left (Wrote path (table_text table)) (g.H.Host.told c.args.host.now) (g.H.Host.told c.append_all.new.host))
    (λ l. subst (λ xs. Left (Wrote path xs) (g.H.Host.told c.args.host.now) (g.H.Host.told c.append_all.new.host)) (text_all table at.k end) (holds_end path (table_text (take at.k table)) (take at.held at.buffer) at.invariant.told (wrote path (take at.held at.buffer) short l)))
    c.append_all.ensures.told

pub returns-clause-broke : goal.returns-clause-broke
returns-clause-broke g c =
    let at = c.loop-k in
    let table = c.args.table.now in
    let path = c.args.path.now in
    let end : at.k ≡ length table = omega arith in
    let short : length (take at.held at.buffer) ≤ 65_536 = grind (arith, length-take) in
    if_err c.append_all.result (Left (AppendBroke path (take at.held at.buffer)) (g.H.Host.told at.host) (g.H.Host.told c.append_all.new.host)) (Left (WriteBroke path (table_text table)) (g.H.Host.told c.args.host.now) (g.H.Host.told c.append_all.new.host))
    (λ l. subst (λ xs. Left (WriteBroke path xs) (g.H.Host.told c.args.host.now) (g.H.Host.told c.append_all.new.host)) (text_all table at.k end) (holds_broke path (table_text (take at.k table)) (take at.held at.buffer) at.invariant.told (write_broke path (take at.held at.buffer) short l)))
    c.append_all.ensures.broke
