use Rattle.std.proofs.Common.{Ok, Option, refl, ap, ◌∙◌, subst, arith, rules}
use Rattle.lr_rules.proofs.Results.{on_err}
use Rattle.lr_host.proofs.Left.{can_stay}
use Rattle.lr_include.specs.declared.part.TextEnd.{TextEnd}
use Rattle.lr_include.specs.Taken.{ReadGoesOn}
use Rattle.lr_include.proofs.Going.{short_unnamed}
use Rattle.lr_include.proofs.part.read_pieces.Goals as goal

pub loop-how-init : goal.loop-how-init
loop-how-init g c = record { took = c.requires.begun; ready = c.requires.ready; small = c.requires.size; file = c.requires.file; buffer = refl; counts = search rules }

pub loop-how-preserved : goal.loop-how-preserved
loop-how-preserved g c =
    let more = c.read_on.ensures.more (c.in_ok-how.was ∙ ap Ok c.in_default.is) in
    record {
      took = subst (λ (how : Option TextEnd). ReadGoesOn c.args.path.now c.args.room c.read_on.new.taking (g.H.Host.told c.args.host.now) (g.H.Host.told c.read_on.new.host) how) c.in_default.is (c.in_ok-how.ensures.told (g.H.Host.told c.args.host.now) c.loop-how.invariant.took);
      ready = more.0;
      small = more.1;
      file = can_stay c.loop-how.invariant.file c.read_on.ensures.only (short_unnamed c.args.path.now);
      buffer = omega (arith, c.read_on.auto.buffer, c.loop-how.invariant.buffer);
      counts = search rules;
    }

pub returns-in-Some-clause-told : goal.returns-in-Some-clause-told
returns-in-Some-clause-told g c = subst (λ (how : Option TextEnd). ReadGoesOn c.args.path.now c.args.room c.read_on.new.taking (g.H.Host.told c.args.host.now) (g.H.Host.told c.read_on.new.host) how) c.in-Some.is (c.in_ok-how.ensures.told (g.H.Host.told c.args.host.now) c.loop-how.invariant.took)

pub returns-in_err-how-clause-lacking : goal.returns-in_err-how-clause-lacking
returns-in_err-how-clause-lacking g c = on_err c.from_residual.result _ (c.in_err-how.ensures.lacking (g.H.Host.told c.args.host.now) c.loop-how.invariant.took)
