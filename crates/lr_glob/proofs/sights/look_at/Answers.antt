use Rattle.std.proofs.Common.{◌≡◌, ◌++◌}
use Rattle.lr_host.proofs.Looking.{sees}
use Rattle.lr_glob.specs.Sights.{file_at}
use Rattle.lr_glob.proofs.Looking.{look_failed, look_lost}
use Rattle.lr_glob.proofs.sights.look_at.Goals as goal

pub returns-in_default-clause-stopped : goal.returns-in_default-clause-stopped
returns-in_default-clause-stopped g c = look_failed c.args.path c.in_default.ensures.told

pub returns-in-Ok-add_file-clause-told : goal.returns-in-Ok-add_file-clause-told
returns-in-Ok-add_file-clause-told g c = sees c.args.path (λ seen. c.add_file.new.found.items ≡ c.args.found.now.items ++ file_at c.args.path seen) c.in-Ok.look c.in-Ok.ensures.told c.in-Ok-add_file.ensures

pub returns-in-Err-clause-stopped : goal.returns-in-Err-clause-stopped
returns-in-Err-clause-stopped g c = look_lost c.args.path c.in-Ok.look c.in-Ok.ensures.told
