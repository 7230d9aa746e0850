use Rattle.std.proofs.Common.{◌≡◌, List, ◌++◌}
use Rattle.std.specs.Vec.Iter.{into_iter_items}
use Rattle.lr_rules.specs.declared.path.Path.{Path}
use Rattle.lr_host.specs.Told.{Left, Onward}
use Rattle.lr_glob.specs.Turns.{VisitsGive}
use Rattle.lr_glob.proofs.round.visit_each.Given as goal

abbrev pub invariant-loop-dir : goal.invariant-loop-dir
invariant-loop-dir g l = record {
  done : List Path;
  seam : into_iter_items l.initial.dir-iterator ≡ done ++ into_iter_items l.dir-iterator;
  told : Left (VisitsGive l.part done l.paths.items) (g.H.Host.told l.initial.host) (g.H.Host.told l.host);
  counts : Onward (g.H.Host.counts l.initial.host) (g.H.Host.counts l.host);
}
