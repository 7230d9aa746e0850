use Rattle.std.proofs.Common.{◌≡◌, ◌≤◌, Err, sym, subst, take, length, rules, arith}
use Rattle.std.specs.Prelude.{OnErr}
use Rattle.std.proofs.lemmas.List.{length-take}
use Rattle.lr_host.specs.Told.{Left}
use Rattle.lr_writing.specs.Buffer.{WriteBroke}
use Rattle.lr_writing.proofs.Buffers.{holds_all, holds_none, write_broke}
use Rattle.lr_writing.proofs.text.make_room.Goals as goal

pub returns-then-held-ge8448-clause-told : goal.returns-then-held-ge8448-clause-told
returns-then-held-ge8448-clause-told g c = holds_all c.args.path.now (take c.args.held c.args.buffer.now) (g.H.Host.told c.args.host.now)

pub returns-in_err-append_all-clause-broke : goal.returns-in_err-append_all-clause-broke
returns-in_err-append_all-clause-broke g c =
    let path = c.args.path.now in
    let held = take c.args.held c.args.buffer.now in
    let short : length held ≤ 65_536 = grind (arith, length-take) in
    let is : c.from_residual.result ≡ Err c.in_err-append_all.field-0.0 = search rules in
    subst (λ r. OnErr r (Left (WriteBroke path held) (g.H.Host.told c.args.host.now) (g.H.Host.told c.append_all.new.host))) (sym is) (write_broke path held short c.in_err-append_all.ensures.broke)

pub returns-clause-told : goal.returns-clause-told
returns-clause-told g c =
    let held = take c.args.held c.args.buffer.now in
    let short : length held ≤ 65_536 = grind (arith, length-take) in
    holds_none c.args.path.now held short c.in_ok-append_all.ensures.told
