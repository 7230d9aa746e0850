use Rattle.std.proofs.Common.{◌≡◌, List, ◌++◌}
use Rattle.std.specs.Vec.Iter.{into_iter_items}
use Rattle.lr_rules.specs.declared.path.Path.{Path}
use Rattle.lr_host.specs.Told.{Left, Onward}
use Rattle.lr_family.specs.InternalParts.{SeesParts}
use Rattle.lr_family.proofs.parts.look_at_parts.Given as goal

abbrev pub invariant-loop-path : goal.invariant-loop-path
invariant-loop-path g l = record {
  done : List Path;
  seam : into_iter_items l.initial.path-iterator ≡ done ++ into_iter_items l.path-iterator;
  told : Left (SeesParts done l.parts.items) (g.H.Host.told l.initial.host) (g.H.Host.told l.host);
  counts : Onward (g.H.Host.counts l.initial.host) (g.H.Host.counts l.host);
}
