use Rattle.std.proofs.Common.{◌≡◌, ◌∙◌, ap, sym, subst, ◌<◌, ◌+◌, ◌-◌, ◌^◌, List, ℕ, [], ◌∷◌, ◌++◌, length, min, get_or, take, true, arith}
use Rattle.std.proofs.lemmas.Bool.{lt-leb}
use Rattle.std.proofs.lemmas.List.{take_more}
use Rattle.lr_rules.specs.declared.civil.Civil.{Civil}
use Rattle.lr_rules.specs.declared.path.Path.{Path}
use Rattle.lr_state.specs.Table.{StateEntry, is_name, is_table, put}
use Rattle.lr_state.specs.Written.{table_text}
use Rattle.lr_state.specs.Measured.{measured_text}
use Rattle.lr_state.proofs.After.{path_named, none_found, one_more_name}
use Rattle.lr_state.proofs.RecordLengths.{text_widens, none_due}
use Rattle.lr_state.proofs.Tables.{said_is_table}
use Rattle.lr_state.proofs.measured.fits.Goals as goal

pub returns-then-len-gt67108864 : goal.returns-then-len-gt67108864
returns-then-len-gt67108864 c =
    let le = text_widens c.args.due.now c.args.now.now c.args.table.now in
    let len = c.text_len-len.ensures in
    let long = c.if-len-gt67108864.true in
    sym (lt-leb (length (measured_text c.args.due.now c.args.now.now c.args.table.now)) 67_108_864 (omega (arith, le, len, long)))

pub set-requires : goal.set-requires
set-requires c = subst (λ (n : List ℕ). is_name n ≡ true) (sym c.bytes.ensures.bytes) (path_named _ c.bytes.ensures.path)

pub loop-log-init : goal.loop-log-init
loop-log-init c = record {
  names = λ q. none_found c.new-counted.result q c.new-counted.ensures;
  measured = c.text_len-len.ensures ∙ ap (λ (n : ℕ). min (2 ^ 64 - 1) n) (ap length (sym (none_due c.args.now.now c.args.table.now)));
}

-- so many of the logs that are due, and one more
one_more_due : (due : List Path) (at : ℕ) (log : Path) (now : Civil) (es : List StateEntry) (len more sum : ℕ) → at < length due → log ≡ get_or due at log → len ≡ min (2 ^ 64 - 1) (length (measured_text (take at due) now es)) → sum ≡ min (len + more) (2 ^ 64 - 1)
    → length (measured_text (take at due ++ log ∷ []) now es) ≡ length (measured_text (take at due) now es) + more → sum ≡ min (2 ^ 64 - 1) (length (measured_text (take (at + 1) due) now es))
one_more_due due at log now es len more sum lt is old added grown =
    let same : length (measured_text (take (at + 1) due) now es) ≡ length (measured_text (take at due ++ log ∷ []) now es) =
    ap (λ (logs : List Path). length (measured_text logs now es)) (take_more due at log lt ∙ ap (λ x. take at due ++ x ∷ []) (sym is)) in
    omega (arith, old, added, grown, same)

pub loop-log-preserved : goal.loop-log-preserved
loop-log-preserved c = record {
  names = one_more_name c.args.due.now c.loop-log.log-index c.log-item.result c.args.now.now c.loop-log.counted c.set.new.self c.in_ok-set.ensures.table c.loop-log-test.true c.log-item.is
      (c.in_ok-set.ensures.ok ∙ ap (λ (n : List ℕ). put c.loop-log.counted n c.args.now.now) c.bytes.ensures.bytes) c.loop-log.invariant.names;
  measured = one_more_due c.args.due.now c.loop-log.log-index c.log-item.result c.args.now.now c.args.table.now c.loop-log.len c.growth_by.result c.saturating_add-len.result c.loop-log-test.true c.log-item.is
      c.loop-log.invariant.measured c.saturating_add-len.ensures
      (c.growth_by.ensures (take c.loop-log.log-index c.args.due.now) is_whole c.loop-log.invariant.names);
}
  where
    is_whole : is_table c.args.table.now ≡ true
    is_whole =
        let len = c.text_len-len.ensures in
        let short = c.if-len-gt67108864.false in
        said_is_table (table_text c.args.table.now) c.args.table.now (c.written_text_is_read.ensures (omega (arith, len, short)))
