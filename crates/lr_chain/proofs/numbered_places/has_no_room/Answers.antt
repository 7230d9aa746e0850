use Rattle.std.proofs.Common.{sym, ap}
use Rattle.lr_chain.specs.Rotation.{is_left}
use Rattle.lr_chain.proofs.numbered_places.has_no_room.Goals as goal

pub returns-in-Keep : goal.returns-in-Keep
returns-in-Keep c = sym (ap (λ k. is_left k c.args.place) c.in-Keep.is)

pub returns-in-Always : goal.returns-in-Always
returns-in-Always c = sym (ap (λ k. is_left k c.args.place) c.in-Always.is)
