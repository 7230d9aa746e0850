use Rattle.std.proofs.Common.{◌≡◌, sym, ◌∙◌}
use Rattle.lr_host.specs.Looks.{is_dir}
use Rattle.lr_host.proofs.Looking.{sees}
use Rattle.lr_glob.proofs.Visits.{can_list}
use Rattle.lr_glob.proofs.visit.look_for_dir.Goals as goal

pub returns-in-Ok-clause-told : goal.returns-in-Ok-clause-told
returns-in-Ok-clause-told g c = sees c.args.dir.now (λ seen. is_dir seen ≡ c.shows_dir.result) c.in-Ok.look c.in-Ok.ensures.told (sym c.shows_dir.ensures)

pub returns-in-Ok-clause-list : goal.returns-in-Ok-clause-list
returns-in-Ok-clause-list g c = λ ok. can_list c.args.dir.now c.in-Ok.look c.in-Ok.ensures.told (sym c.shows_dir.ensures ∙ cc)
