use Rattle.std.proofs.Common.{List, map, drop, ap, ◌∙◌, subst}
use Rattle.lr_plan.specs.declared.mark.Mark.{Mark}
use Rattle.lr_plan.specs.Done.{rotated_logs}
use Rattle.lr_plan.specs.Steps.{state_steps}
use Rattle.lr_state.specs.After.{stamped}
use Rattle.lr_state.specs.Table.{StateEntry as Row}
use Rattle.lr_state.specs.Written.{table_text}
use Rattle.lr_writing.specs.Writes.{AddsCourse}
use Rattle.lr_run.proofs.Carrying.{marks_behind}
use Rattle.lr_run.proofs.acting.save.Goals as goal

pub returns-clause-told : goal.returns-clause-told
returns-clause-told g c =
    subst (λ (ms : List Mark). AddsCourse (state_steps c.args.writing.state c.args.writing.stale c.args.dirs (table_text (map (stamped (rotated_logs (drop c.args.before ms)) c.args.now) c.args.table))) c.args.progress.now.faults.items c.write_state.new.faults.items (g.H.Host.told c.args.host.now) (g.H.Host.told c.write_state.new.host) (g.H.Host.counts c.args.host.now) (g.H.Host.counts c.write_state.new.host))
    c.as_slice.ensures.value
    (subst (λ (rows : List Row). AddsCourse (state_steps c.args.writing.state c.args.writing.stale c.args.dirs (table_text rows)) c.args.progress.now.faults.items c.write_state.new.faults.items (g.H.Host.told c.args.host.now) (g.H.Host.told c.write_state.new.host) (g.H.Host.counts c.args.host.now) (g.H.Host.counts c.write_state.new.host))
    (c.stamp_all.ensures ∙ ap (λ (ms : List Mark). map (stamped (rotated_logs ms) c.args.now) c.args.table) (marks_behind c.args.before c.as_slice.result.now)) c.write_state.ensures.told)
