use Rattle.std.proofs.Common.{◌≡◌, List, ◌++◌}
use Rattle.std.specs.Vec.Iter.{into_iter_items}
use Rattle.lr_rules.specs.declared.path.Path.{Path}
use Rattle.lr_host.specs.Counted.{Went}
use Rattle.lr_host.specs.Told.{Left}
use Rattle.lr_audit.specs.Files.{AddsFiles, LookedAtEach}
use Rattle.lr_audit.proofs.files.look_at_each.Given as goal

abbrev pub invariant-loop-path : goal.invariant-loop-path
invariant-loop-path g l = record {
  done : List Path;
  seam : into_iter_items l.initial.path-iterator ≡ done ++ into_iter_items l.path-iterator;
  told : Left (AddsFiles (LookedAtEach done) l.initial.files.items l.files.items l.initial.faults.items l.faults.items) (g.H.Host.told l.initial.host) (g.H.Host.told l.host);
  went : Went l.initial.faults.items l.faults.items (g.H.Host.counts l.initial.host) (g.H.Host.counts l.host);
}
