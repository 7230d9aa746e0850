use Rattle.lr_rules.specs.declared.clock.Clock.{Clock}
use Rattle.lr_host.proofs.Running.{is_on, did_begin}
use Rattle.lr_rows_host.proofs.calls.begin.Goals as goal

pub end-requires : goal.end-requires
end-requires g c =
    let now = c.in_ok-now.now in
    let bound = c.in_ok-now.ensures in
    let clock : Clock = record { now = now; yesterday = now; hour_ago = now; now_in = bound; yesterday_in = bound; hour_ago_in = bound } in
    is_on c.in_ok-state.state clock _ (did_begin c.in_ok-state.state clock _ c.in-Ok-true.field-0 c.in-Ok-true.field-0-test c.in-Ok-true.ensures.told)
