use Rattle.std.proofs.Common.{◌≡◌, Err, [], ◌∷◌, ◌++◌, List, refl, sym, ap, ◌∙◌, append_assoc, rules}
use Rattle.lr_rules.specs.declared.path.Path.{Path}
use Rattle.lr_host.proofs.Counts.{went_none, went_on, onward_on}
use Rattle.lr_audit.proofs.Filing.{looked_none, looked_more, behind_looked, lost, went_lost}
use Rattle.lr_audit.proofs.files.look_at_each.Goals as goal

pub loop-path-init : goal.loop-path-init
loop-path-init g c = record { done = []; seam = refl; told = looked_none c.args.files.now.items c.args.faults.now.items; went = went_none c.args.faults.now.items _ }

pub loop-path-preserved : goal.loop-path-preserved
loop-path-preserved g c = record {
  done = c.loop-path.invariant.done ++ c.in-Some.path ∷ [];
  seam = c.loop-path.invariant.seam ∙ (ap (λ (ds : List Path). c.loop-path.invariant.done ++ ds) c.in-Some.ensures.steps.0 ∙ sym (append_assoc c.loop-path.invariant.done (c.in-Some.path ∷ []) _));
  told = looked_more c.loop-path.invariant.done (c.in-Some.path ∷ []) c.args.files.now.items c.loop-path.files.items c.look_at.new.files.items c.args.faults.now.items c.loop-path.faults.items c.look_at.new.faults.items c.loop-path.invariant.told c.in_ok-look_at.ensures.told;
  went = went_on c.args.faults.now.items c.loop-path.faults.items c.look_at.new.faults.items _ _ _ c.loop-path.invariant.went c.in_ok-look_at.ensures.went;
}

pub returns-in_err-look_at-clause-some : goal.returns-in_err-look_at-clause-some
returns-in_err-look_at-clause-some g c = lost c.from_residual.result (behind_looked c.loop-path.invariant.done c.args.files.now.items c.loop-path.files.items c.args.faults.now.items c.loop-path.faults.items c.loop-path.invariant.told c.in_err-look_at.ensures.some)

pub returns-in_err-look_at-clause-went : goal.returns-in_err-look_at-clause-went
returns-in_err-look_at-clause-went g c =
    let failed : c.from_residual.result ≡ Err c.in_err-look_at.field-0.0 = search rules in
    went_lost c.from_residual.result c.in_err-look_at.field-0.0 c.args.faults.now.items c.look_at.new.faults.items _ _ failed (onward_on _ _ _ c.loop-path.invariant.went.onward c.in_err-look_at.ensures.went)
