use Rattle.lr_host.proofs.Left.{left_both}
use Rattle.lr_cat.specs.Saw.{Works}
use Rattle.lr_cat.proofs.Sighted.{stays_on}
use Rattle.lr_cat.proofs.Working.{ended_so}
use Rattle.lr_cat.proofs.locked.put_to_end.Goals as goal

pub end-requires : goal.end-requires
end-requires g c = stays_on c.see_and_put-done.ensures.sights c.requires.on

pub returns-clause-came : goal.returns-clause-came
returns-clause-came g c = ended_so (λ how texts ts. Works c.args.family.now.naming c.args.log how texts ts) c.see_and_put-done.result (g.H.Host.told c.args.host.now) (g.H.Host.told c.see_and_put-done.new.host) (g.H.Host.told c.end.new.self)
    (g.K.Sink.taken c.args.out.now) (g.K.Sink.taken c.see_and_put-done.new.out) c.see_and_put-done.ensures.came c.end.ensures.told

pub returns-clause-short : goal.returns-clause-short
returns-clause-short g c = λ e. left_both c.see_and_put-done.ensures.sights c.end.ensures.told
