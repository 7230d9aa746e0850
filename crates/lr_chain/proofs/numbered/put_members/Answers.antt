use Rattle.std.proofs.Common.{◌∙◌}
use Rattle.lr_chain.proofs.PutIn.{put_in}
use Rattle.lr_chain.proofs.numbered.put_members.Goals as goal

pub returns : goal.returns
returns c =
    put_in c.args.family.now.naming c.args.count c.args.places.now c.args.from.now c.args.ready.now c.from_vec.result c.from_vec-2.result c.from_vec-3.result
    (c.from_vec.ensures ∙ c.in_ok-leftover_removals.ensures) (c.from_vec-2.ensures ∙ c.in_ok-moves_of.ensures) (c.from_vec-3.ensures ∙ c.in_ok-last_removals.ensures)
