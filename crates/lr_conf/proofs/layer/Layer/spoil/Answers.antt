use Rattle.std.proofs.Common.{[], ◌∷◌}
use Rattle.lr_rules.specs.declared.fault.ConfKind.TheVariants as kind
use Rattle.lr_conf.specs.Meaning.{Spoiled, conf}
use Rattle.lr_conf.proofs.Limits.{behind_told}
use Rattle.lr_conf.proofs.layer.Layer.spoil.Goals as goal

-- whichever the fault is
pub invariant_of-self : goal.invariant_of-self
invariant_of-self c =
    let f = conf [] kind.Unknown c.args.line in
    record { limits = behind_told c.args.self.now.draft c.spoil.new.self (Spoiled f) (f ∷ []) (c.spoil.ensures.means f) c.args.self.now.limits }
