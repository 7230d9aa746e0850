use Rattle.std.proofs.Common.{◌≡◌, sym, subst, rules, Err, IfErr, option_copied}
use Rattle.lr_host.specs.Told.{Left}
use Rattle.lr_scripts.specs.Removals.{RemovalRefused}
use Rattle.lr_scripts.proofs.Removing.{mail_fits, unlink_fits, removed, preremove_refused, mail_refused, unlink_failed}
use Rattle.lr_scripts.proofs.removal.remove.Goals as goal

pub returns-in_err-run_where_given-clause-refused : goal.returns-in_err-run_where_given-clause-refused
returns-in_err-run_where_given-clause-refused g c =
    let is : c.from_residual.result ≡ Err c.in_err-run_where_given.field-0.0 = search rules in
    subst (λ r. IfErr r (λ why. Left (RemovalRefused c.args.removal.now why) (g.H.Host.told c.args.host.now) (g.H.Host.told c.run_where_given.new.host))) (sym is)
    (preremove_refused c.args.removal.now (option_copied c.as_ref.result) c.in_err-run_where_given.field-0.0 (g.H.Host.counts c.args.host.now) (g.H.Host.counts c.run_where_given.new.host) c.as_ref.ensures.value c.in_err-run_where_given.ensures.cause c.in_err-run_where_given.ensures.refused)

pub run_where_given-requires-2 : goal.run_where_given-requires-2
run_where_given-requires-2 g c = mail_fits c.args.removal.now (option_copied c.as_ref.result) _ c.as_ref.ensures.value c.as_ref-2.ensures.value c.requires c.in_ok-run_where_given.ensures.told

pub returns-in_err-run_where_given-2-clause-refused : goal.returns-in_err-run_where_given-2-clause-refused
returns-in_err-run_where_given-2-clause-refused g c =
    let is : c.from_residual-in_err-run_where_given-2.result ≡ Err c.in_err-run_where_given-2.field-0.0 = search rules in
    subst (λ r. IfErr r (λ why. Left (RemovalRefused c.args.removal.now why) (g.H.Host.told c.args.host.now) (g.H.Host.told c.run_where_given-2.new.host))) (sym is)
    (mail_refused c.args.removal.now (option_copied c.as_ref.result) (option_copied c.as_ref-2.result) c.in_err-run_where_given-2.field-0.0 (g.H.Host.counts c.run_where_given.new.host) (g.H.Host.counts c.run_where_given-2.new.host) c.as_ref.ensures.value c.as_ref-2.ensures.value c.in_err-run_where_given-2.ensures.cause
    c.in_ok-run_where_given.ensures.told c.in_err-run_where_given-2.ensures.refused)

pub unlink-requires : goal.unlink-requires
unlink-requires g c =
    unlink_fits c.args.removal.now (option_copied c.as_ref.result) (option_copied c.as_ref-2.result) c.as_ref.ensures.value c.as_ref-2.ensures.value c.requires c.in_ok-run_where_given.ensures.told c.in_ok-run_where_given-2.ensures.told

pub returns-in-Ok-clause-told : goal.returns-in-Ok-clause-told
returns-in-Ok-clause-told g c =
    removed c.args.removal.now (option_copied c.as_ref.result) (option_copied c.as_ref-2.result) c.as_ref.ensures.value c.as_ref-2.ensures.value c.in_ok-run_where_given.ensures.told c.in_ok-run_where_given-2.ensures.told c.in-Ok.ensures.told

pub returns-in-Err-Failed-clause-refused : goal.returns-in-Err-Failed-clause-refused
returns-in-Err-Failed-clause-refused g c =
    unlink_failed c.args.removal.now (option_copied c.as_ref.result) (option_copied c.as_ref-2.result) c.as_ref.ensures.value c.as_ref-2.ensures.value c.in_ok-run_where_given.ensures.told c.in_ok-run_where_given-2.ensures.told
    c.in-Err-Failed.ensures.told
