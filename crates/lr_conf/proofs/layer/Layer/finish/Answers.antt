use Rattle.std.proofs.Common.{ap, sym, ◌∙◌, []}
use Rattle.std.specs.List.{list_all}
use Rattle.std.proofs.lemmas.List.{append-nil}
use Rattle.lr_rules.specs.Limits.{meets_limits}
use Rattle.lr_conf.proofs.layer.Layer.finish.Goals as goal

pub invariant_of-result : goal.invariant_of-result
invariant_of-result c =
    let same = c.from_vec.ensures ∙ ap (λ v. v.items) c.replace-rules.ensures.value ∙ sym (append-nil c.args.self.draft.rules.items) in
    record { limits = ap (list_all meets_limits) same ∙ c.args.self.limits [] }
