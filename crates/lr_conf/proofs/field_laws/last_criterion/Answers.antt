use Rattle.std.proofs.Common.{◌∷◌, ◌++◌, ap, ◌∙◌}
use Rattle.std.specs.List.{filter_map}
use Rattle.std.proofs.lemmas.List.Elements.{filter_map-append}
use Rattle.lr_rules.specs.declared.rule.Criterion.TheVariants as criterion
use Rattle.lr_forms.specs.declared.set.Set.TheVariants as set
use Rattle.lr_conf.specs.Fields.{last_or, criterion_set}
use Rattle.lr_conf.proofs.Lasts.{last_behind}
use Rattle.lr_conf.proofs.field_laws.last_criterion.Goals as goal

pub returns : goal.returns
returns c earlier later n unset =
    ap (last_or (criterion.Size 1048576)) (filter_map-append criterion_set earlier (set.Criterion n ∷ later) ∙ ap (λ x. filter_map criterion_set earlier ++ n ∷ x) unset)
    ∙ last_behind (criterion.Size 1048576) n (filter_map criterion_set earlier)
