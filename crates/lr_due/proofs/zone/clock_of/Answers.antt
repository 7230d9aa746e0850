use Rattle.std.proofs.Common.{◌≡◌, ◌∙◌, sym, subst, List, ℕ, Ok, Err, inl, inr}
use Rattle.jiff_tz.specs.Tzif.{tzif_view}
use Rattle.jiff_tz.specs.TzifReader.{read_tzif}
use Rattle.lr_due.specs.declared.zone.ZoneText.{ZoneText}
use Rattle.lr_due.specs.declared.zone.ZoneText.TheVariants.{Bytes}
use Rattle.lr_due.specs.Zone.{IsRefusedZone}
use Rattle.lr_due.proofs.Rules.{agreeing_is_not_bad}
use Rattle.lr_due.proofs.zone.clock_of.Goals as goal

pub returns-in-Ok-parse-clause-refuses : goal.returns-in-Ok-parse-clause-refuses
returns-in-Ok-parse-clause-refuses c range bad =
    let refused : IsRefusedZone (Bytes c.in-Bytes.bytes) =
    subst (λ (z : ZoneText). IsRefusedZone z) c.in-Bytes.is bad in
    let read : read_tzif c.in-Bytes.bytes ≡ Ok (tzif_view c.in-Ok-parse.table) =
    subst (λ (xs : List ℕ). read_tzif xs ≡ Ok (tzif_view c.in-Ok-parse.table)) c.as_slice.ensures c.in-Ok-parse.ensures.value in
    elim refused [
      | inl f ↦ let e : Ok (tzif_view c.in-Ok-parse.table) ≡ Err f.0 = sym read ∙ f.1 in cc
      | inr h ↦ agreeing_is_not_bad c.in-Ok-parse.table (read_tzif c.in-Bytes.bytes) read c.in-Ok-parse.ensures.agrees h
    ]
