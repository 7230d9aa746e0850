use Rattle.std.proofs.Common.{◌<◌, List, length, sym, ◌∙◌, subst}
use Rattle.lr_kept.specs.Begun.{place_in}
use Rattle.lr_audited.specs.declared.line.Line.{Line}
use Rattle.lr_audited.proofs.Placing.{place_below, found_ok, none_ok}
use Rattle.lr_audited.proofs.knowing.line_for.Goals as goal

pub copy_at-requires : goal.copy_at-requires
copy_at-requires c = subst (λ (ls : List Line). c.in-Some.place < length ls) (sym c.deref.ensures.value) (place_below c.args.known.now.lines.items (place_in c.args.known.now.places.entries) c.args.path.now c.in-Some.place c.requires (sym c.place_of.ensures ∙ c.in-Some.is))

pub returns-in-Some : goal.returns-in-Some
returns-in-Some c = found_ok c.args.known.now.lines.items _ (place_in c.args.known.now.places.entries) c.args.path.now c.in-Some.place c.copy_at.result c.requires (sym c.place_of.ensures ∙ c.in-Some.is) c.deref.ensures.value c.copy_at.ensures

pub returns-in-None : goal.returns-in-None
returns-in-None c = none_ok c.args.known.now.lines.items (place_in c.args.known.now.places.entries) c.args.path.now c.stranger_at.result c.requires (sym c.place_of.ensures ∙ c.in-None.is) c.stranger_at.ensures
