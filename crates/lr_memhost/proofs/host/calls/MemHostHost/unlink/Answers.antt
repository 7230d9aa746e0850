use Rattle.std.proofs.Common.{◌∙◌}
use Rattle.lr_memhost.proofs.CalmLemmas.{calm_how}
use Rattle.lr_memhost.proofs.host.calls.MemHostHost.unlink.Goals as goal

pub returns-clause-calm : goal.returns-clause-calm
returns-clause-calm c = λ calm. c.change.ensures.calm (c.how-how.ensures ∙ calm_how c.args.self.now calm) calm
