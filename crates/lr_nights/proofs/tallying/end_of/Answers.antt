use Rattle.lr_nights.proofs.tallying.end_of.Goals as goal

pub returns : goal.returns
returns c = λ sets p are is. (c.in_ok-standing.ensures sets p are is.shows, c.count_gone-released.ensures sets p is)
