use Rattle.std.proofs.Common.{◌≡◌, ◌+◌, List, drop}
use Rattle.std.specs.Prelude.{sum_by}
use Rattle.lr_host.specs.World.{World}
use Rattle.lr_host.specs.Sets.{LogSet}
use Rattle.lr_disk.specs.State.{ShowsWorld}
use Rattle.lr_nights.specs.Summary.{AreSetsOf, logs_of}
use Rattle.lr_nights.specs.Walk.{count_one, bytes_one}
use Rattle.lr_nights.proofs.files.count_files.Given as goal

abbrev pub invariant-loop-name : goal.invariant-loop-name
invariant-loop-name l = record {
  files : (sets : List LogSet) → AreSetsOf (logs_of l.logs) sets → l.standing.files + sum_by (count_one sets) (drop l.name-index l.named) ≡ sum_by (count_one sets) l.named;
  bytes : (sets : List LogSet) (w : World) → AreSetsOf (logs_of l.logs) sets → ShowsWorld l.replay w → l.standing.bytes + sum_by (bytes_one w sets) (drop l.name-index l.named) ≡ sum_by (bytes_one w sets) l.named;
}
