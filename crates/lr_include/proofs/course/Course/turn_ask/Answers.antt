use Rattle.lr_rules.proofs.Results.{on_err}
use Rattle.lr_include.proofs.Readers.{on_ok_as}
use Rattle.lr_include.proofs.Stages.{ask_turned, shown_at}
use Rattle.lr_include.specs.Stages.{is_shallow, room_for}
use Rattle.lr_include.proofs.Lacking.{ask_lacks, part_at, ask_made_lacks}
use Rattle.lr_include.proofs.course.Course.turn_ask.Goals as goal

pub returns-clause-told : goal.returns-clause-told
returns-clause-told g c = on_ok_as c.after_ask.result _ _ c.after_ask.ensures (λ f s st.
    ask_turned s c.after_ask.new.self c.args.ask c.in_ok-visit.visit _ _ c.in_ok-visit.ensures.counts.0.0 c.in_ok-visit.ensures.cause
    (shown_at c.args.ask.path _ (is_shallow s) _ (room_for s) c.in_ok-visit.visit (c.shallow-lists.ensures.shallow s st) (c.room_for-room.ensures.room s st) c.in_ok-visit.ensures.told) (f s st))

pub returns-in_err-visit-clause-lacking : goal.returns-in_err-visit-clause-lacking
returns-in_err-visit-clause-lacking g c = on_err c.from_residual.result _ (λ s st. ask_lacks s c.args.ask (part_at c.args.ask.path _ (room_for s) (c.room_for-room.ensures.room s st) c.in_err-visit.ensures.lacking))

pub returns-clause-lacking : goal.returns-clause-lacking
returns-clause-lacking g c = on_err c.after_ask.result _ (λ s st. ask_made_lacks s c.args.ask c.in_ok-visit.visit
    (shown_at c.args.ask.path _ (is_shallow s) _ (room_for s) c.in_ok-visit.visit (c.shallow-lists.ensures.shallow s st) (c.room_for-room.ensures.room s st) c.in_ok-visit.ensures.told))
