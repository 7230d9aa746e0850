use Rattle.std.proofs.Common.{ap, [], ◌++◌}
use Rattle.lr_report.proofs.PutLemmas.{part_on, part_as, part_first}
use Rattle.lr_report.proofs.lines.put_conf.Goals as goal

pub returns-clause-part : goal.returns-clause-part
returns-clause-part g c =
    part_on _ _ _ _ _ c.in_ok-put_place.ensures.whole
    (part_as _ _ _ _ (ap (λ w. w ++ []) c.conf_kind_name.ensures) (part_first c.conf_kind_name.result.now [] _ _ c.put_one.ensures.part))
