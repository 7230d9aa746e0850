use Rattle.std.proofs.Common.{rules, arith, ◌≡◌, ◌∙◌, ap, pos, ◌+ℤ◌, ◌*ℤ◌}
use Rattle.jiff_core.specs.Timestamp.{nanos_of_seconds}
use Rattle.jiff_core.specs.DateTime.{civil_seconds, civil_nanos}
use Rattle.jiff_tz.specs.Zone.{offset_at}
use Rattle.jiff.specs.ZoneView.{plain_zone}
use Rattle.jiff.proofs.SpanFacts.{signed_arith}
use Rattle.lr_due.proofs.Years.{day_from_nanos, year_from_nanos, civil_seconds-of_nanos, moment-civil_seconds}
use Rattle.lr_due.proofs.zone.civil_at.Goals as goal

pub civil_of-requires : goal.civil_of-requires
civil_of-requires c =
    let low = c.requires in
    let bound = c.to_offset-offset.result.in_range in
    let i : c.in-Ok.instant.nanosecond ≡ nanos_of_seconds c.args.seconds = search rules in
    let e : civil_nanos c.to_datetime.result ≡ (c.args.seconds +ℤ c.to_offset-offset.result.seconds) *ℤ pos 1_000_000_000 =
    let shown = c.to_datetime.ensures in omega (arith, signed_arith) in
    year_from_nanos c.to_datetime.result (c.args.seconds +ℤ c.to_offset-offset.result.seconds) e (omega (arith, signed_arith))

pub returns-clause-shown : goal.returns-clause-shown
returns-clause-shown c =
    let i : c.in-Ok.instant.nanosecond ≡ nanos_of_seconds c.args.seconds = search rules in
    let e : civil_nanos c.to_datetime.result ≡ (c.args.seconds +ℤ c.to_offset-offset.result.seconds) *ℤ pos 1_000_000_000 =
    let shown = c.to_datetime.ensures in omega (arith, signed_arith) in
    let seconds : civil_seconds c.to_datetime.result ≡ c.args.seconds +ℤ c.to_offset-offset.result.seconds = civil_seconds-of_nanos c.to_datetime.result (c.args.seconds +ℤ c.to_offset-offset.result.seconds) e in
    let offset : c.to_offset-offset.result.seconds ≡ offset_at (plain_zone c.args.zone) (nanos_of_seconds c.args.seconds) =
    c.to_offset-offset.ensures ∙ ap (λ n. offset_at (plain_zone c.args.zone) n) i in
    let d = c.civil_of.ensures.date in
    let t = c.civil_of.ensures.time in
    rw (d.0, d.1, d.2, t.0, t.1, t.2) (moment-civil_seconds c.to_datetime.result ∙ seconds ∙ ap (λ n. c.args.seconds +ℤ n) offset)

pub returns-clause-near : goal.returns-clause-near
returns-clause-near c =
    let low = c.requires in
    let bound = c.to_offset-offset.result.in_range in
    let i : c.in-Ok.instant.nanosecond ≡ nanos_of_seconds c.args.seconds = search rules in
    let e : civil_nanos c.to_datetime.result ≡ (c.args.seconds +ℤ c.to_offset-offset.result.seconds) *ℤ pos 1_000_000_000 =
    let shown = c.to_datetime.ensures in omega (arith, signed_arith) in
    let d = c.civil_of.ensures.date in
    rw (d.0, d.1, d.2) (day_from_nanos c.to_datetime.result (c.args.seconds +ℤ c.to_offset-offset.result.seconds) e (omega (arith, signed_arith)))
