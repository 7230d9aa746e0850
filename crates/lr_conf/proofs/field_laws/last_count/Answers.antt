use Rattle.std.proofs.Common.{◌∷◌, ◌++◌, ap, ◌∙◌}
use Rattle.std.specs.List.{filter_map}
use Rattle.std.proofs.lemmas.List.Elements.{filter_map-append}
use Rattle.lr_rules.specs.declared.rule.Count.TheVariants as count
use Rattle.lr_forms.specs.declared.set.Set.TheVariants as set
use Rattle.lr_conf.specs.Fields.{last_or, count_set}
use Rattle.lr_conf.proofs.Lasts.{last_behind}
use Rattle.lr_conf.proofs.field_laws.last_count.Goals as goal

pub returns : goal.returns
returns c earlier later n unset =
    ap (last_or (count.Keep 0)) (filter_map-append count_set earlier (set.Count n ∷ later) ∙ ap (λ x. filter_map count_set earlier ++ n ∷ x) unset)
    ∙ last_behind (count.Keep 0) n (filter_map count_set earlier)
