use Rattle.std.proofs.Common.{◌∙◌, ap, subst, List, ℕ}
use Rattle.lr_kept.specs.Fronts.{member_front, below}
use Rattle.lr_kept.specs.Pairs.{AddsPairs}
use Rattle.lr_kept.proofs.Elements.{read_from}
use Rattle.lr_kept.proofs.Pairing.{found_all}
use Rattle.lr_kept.proofs.pairs.add_found.Goals as goal

pub returns : goal.returns
returns c =
    found_all c.args.logs.now c.args.choices.now c.args.fronts.now c.args.place c.index-logs-place.result c.args.pairs.now.items c.add_pairs.new.pairs.items c.add_pairs-2.new.pairs.items c.add_aside.new.pairs.items
    (read_from c.args.logs.now c.args.place c.index-logs-place.result c.requires.place c.index-logs-place.is)
    (subst (λ (begin : List ℕ). AddsPairs c.args.logs.now c.args.fronts.now c.args.place begin c.args.pairs.now.items c.add_pairs.new.pairs.items)
    (c.deref.ensures.value ∙ c.in_ok-members.ensures ∙ ap member_front c.naming.ensures) c.in_ok-add_pairs.ensures)
    (subst (λ (begin : List ℕ). AddsPairs c.args.logs.now c.args.fronts.now c.args.place begin c.add_pairs.new.pairs.items c.add_pairs-2.new.pairs.items)
    (c.deref-2.ensures.value ∙ c.in_ok-below.ensures ∙ ap below (c.bytes.ensures.bytes ∙ c.log.ensures)) c.in_ok-add_pairs-2.ensures) c.in_ok-add_aside.ensures
