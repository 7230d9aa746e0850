use Rattle.std.proofs.Common.{◌∙◌, ap, subst, List, ℕ}
use Rattle.lr_rules.specs.Names.{aside_path}
use Rattle.lr_kept.specs.Pairs.{AddsPairs}
use Rattle.lr_kept.proofs.Elements.{read_from}
use Rattle.lr_kept.proofs.Pairing.{aside_found}
use Rattle.lr_kept.proofs.pairs.add_aside.Goals as goal

pub returns : goal.returns
returns c =
    aside_found c.args.logs.now c.args.fronts.now c.args.place c.index-logs-place.result c.args.pairs.now.items c.add_pairs.new.pairs.items
    (read_from c.args.logs.now c.args.place c.index-logs-place.result c.requires.place c.index-logs-place.is)
    (subst (λ (begin : List ℕ). AddsPairs c.args.logs.now c.args.fronts.now c.args.place begin c.args.pairs.now.items c.add_pairs.new.pairs.items)
    (c.deref.ensures.value ∙ c.in_ok-aside.ensures ∙ ap aside_path (c.bytes.ensures.bytes ∙ c.log.ensures)) c.in_ok-add_pairs.ensures)
