use Rattle.std.proofs.Common.{◌≡◌, [], length, Err, refl, ap, subst, arith, rules}
use Rattle.std.specs.Prelude.{filter}
use Rattle.lr_host.specs.Steps.{is_naming}
use Rattle.lr_host.proofs.Left.{can_stay}
use Rattle.lr_include.specs.declared.text.ReadStop.{ReadStop}
use Rattle.lr_include.specs.declared.text.ReadStop.TheVariants as stop
use Rattle.lr_include.proofs.Texts.{reads_first, reads_broken, reads_partly, reads_more, reads_end, reads_full, read_as, none_added, some_added, same_bytes, take_short}
use Rattle.lr_include.proofs.text.read_up_to.Goals as goal

pub loop-bytes-init : goal.loop-bytes-init
loop-bytes-init g c = record { told = reads_first c.args.path.now c.args.bytes.now.items _ c.requires.none; file = c.requires.file; within = omega (arith, ap length c.requires.none); counts = search rules }

pub returns-in-Err-clause-failed : goal.returns-in-Err-clause-failed
returns-in-Err-clause-failed g c = λ e.
    let why : c.in-Err.why ≡ stop.Call = cc e in
    reads_broken c.args.path.now c.args.limit c.loop-bytes.bytes.items (omega (arith, c.loop-bytes-test.true, c.len.ensures))
    c.loop-bytes.invariant.told (c.read_on.ensures.failed (subst (λ (w : ReadStop). c.read_on.result ≡ Err w) why c.in-Err.is))

pub returns-in-Err-clause-lacking : goal.returns-in-Err-clause-lacking
returns-in-Err-clause-lacking g c = λ e.
    let why : c.in-Err.why ≡ stop.Memory = cc e in
    reads_partly c.args.path.now c.args.limit _ c.loop-bytes.bytes.items (omega (arith, c.loop-bytes-test.true, c.len.ensures))
    (omega (arith, c.loop-bytes.invariant.within, c.ask_for-room.ensures.within, c.len-in-loop-bytes.ensures, take_short c.ask_for-room.result c.loop-bytes.piece))
    c.loop-bytes.invariant.told (c.read_on.ensures.lacking (subst (λ (w : ReadStop). c.read_on.result ≡ Err w) why c.in-Err.is))

pub returns-then-count-eq0-clause-told : goal.returns-then-count-eq0-clause-told
returns-then-count-eq0-clause-told g c =
    let size : length c.read_on.new.bytes.items ≡ length c.loop-bytes.bytes.items = omega (arith, c.in-Ok.ensures.count, c.if-count-eq0.true) in
    reads_end c.args.path.now c.args.limit c.loop-bytes.bytes.items c.read_on.new.bytes.items
    (omega (arith, c.loop-bytes-test.true, c.len.ensures)) c.loop-bytes.invariant.told
    (read_as c.args.path.now _ _ _ [] c.in-Ok.ensures.told refl (none_added c.loop-bytes.bytes.items c.read_on.new.bytes.items size))
    (same_bytes c.loop-bytes.bytes.items c.read_on.new.bytes.items c.in-Ok.ensures.grown size)

pub loop-bytes-preserved : goal.loop-bytes-preserved
loop-bytes-preserved g c = record {
  told = reads_more c.args.path.now c.loop-bytes.bytes.items _ c.read_on.new.bytes.items
      (some_added c.loop-bytes.bytes.items c.read_on.new.bytes.items c.in-Ok.count c.in-Ok.ensures.count c.if-count-eq0.false) c.loop-bytes.invariant.told c.in-Ok.ensures.told c.in-Ok.ensures.grown;
  file = can_stay c.loop-bytes.invariant.file c.in-Ok.ensures.told (λ ts is. ap (filter is_naming) is);
  within = omega (arith, c.in-Ok.ensures.count, c.in-Ok.ensures.within, c.read_on.auto.piece, c.loop-bytes.invariant.within, c.ask_for-room.ensures.within, c.len-in-loop-bytes.ensures, take_short c.ask_for-room.result c.loop-bytes.piece);
  counts = search rules;
}

pub returns-clause-told : goal.returns-clause-told
returns-clause-told g c = reads_full c.args.path.now c.args.limit c.loop-bytes.bytes.items c.loop-bytes.invariant.told
    (omega (arith, c.loop-bytes-test.false, c.loop-bytes.invariant.within, c.len.ensures))
