use Rattle.std.proofs.Common.{List, ℕ, ap, ◌∙◌, bytes_eq, codes}
use Rattle.lr_rules.specs.Names.{aside_path}
use Rattle.lr_rules.proofs.AsideTest.{aside_is}
use Rattle.lr_rules.proofs.naming.is_aside_path.Goals as goal

pub returns : goal.returns
returns c =
    c.has_end.ensures
    ∙ (aside_is c.bytes.result.now c.bytes-2.result.now (codes ".tmp")
    ∙ (ap (λ (path : List ℕ). bytes_eq path (aside_path c.bytes-2.result.now)) c.bytes.ensures.bytes
    ∙ ap (λ (log : List ℕ). bytes_eq c.args.path.now (aside_path log)) c.bytes-2.ensures.bytes))
