use Rattle.lr_conf.proofs.Law.{from_start}
use Rattle.lr_conf.proofs.draft.Draft.new.Goals as goal

pub returns-clause-means : goal.returns-clause-means
returns-clause-means c lines = rw (c.in_ok-taboo.ensures.fields.0, c.in_ok-taboo.ensures.fields.1, c.new-2.ensures.items, c.new-3.ensures.items, c.new-4.ensures.items, c.new-5.ensures.items) (from_start lines)
