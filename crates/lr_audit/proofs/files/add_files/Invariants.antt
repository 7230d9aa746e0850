use Rattle.std.proofs.Common.{take}
use Rattle.lr_host.specs.Counted.{Went}
use Rattle.lr_host.specs.Told.{Left}
use Rattle.lr_audit.specs.Files.{AddsFiles, ShowsDirs}
use Rattle.lr_audit.proofs.files.add_files.Given as goal

abbrev pub invariant-loop-dir : goal.invariant-loop-dir
invariant-loop-dir g l = record {
  told : Left (AddsFiles (ShowsDirs (take l.dir-index l.dirs)) l.initial.files.items l.files.items l.initial.faults.items l.faults.items) (g.H.Host.told l.initial.host) (g.H.Host.told l.host);
  went : Went l.initial.faults.items l.faults.items (g.H.Host.counts l.initial.host) (g.H.Host.counts l.host);
}
