use Rattle.std.proofs.Common.{sym, arith}
use Rattle.lr_host.specs.World.{names, world}
use Rattle.lr_host.proofs.Lists.{in_from}
use Rattle.lr_nights.specs.Walk.{count_one, bytes_one}
use Rattle.lr_nights.proofs.Lists.{sum_on, sum_end}
use Rattle.lr_nights.proofs.Generations.{from_pair}
use Rattle.lr_nights.proofs.Paths.{stand_all}
use Rattle.lr_nights.proofs.files.count_files.Goals as goal

pub loop-name-preserved : goal.loop-name-preserved
loop-name-preserved c =
    let ns = c.named-named.result.now in
    let i = c.loop-name.name-index in
    let n = c.name-item.result in
    record {
      files = λ sets are. sum_on (count_one sets) ns i n _ _ _ c.loop-name-test.true c.name-item.is (c.in-Some.ensures.files sets are) (c.loop-name.invariant.files sets are);
      bytes = λ sets w are shows.
          let there = from_pair ns (names w) (record { once = c.named-named.ensures.once; named = c.named-named.ensures.named w shows }) n (in_from n ns (i, c.loop-name-test.true, sym c.name-item.is)) in
          sum_on (bytes_one w sets) ns i n _ _ _ c.loop-name-test.true c.name-item.is (c.in-Some.ensures.bytes sets w are shows there) (c.loop-name.invariant.bytes sets w are shows);
    }

pub returns : goal.returns
returns c = λ sets p are shows.
    let ns = c.named-named.result.now in
    let i = c.loop-name.name-index in
    stand_all sets p ns c.loop-name.standing (record { once = c.named-named.ensures.once; named = c.named-named.ensures.named (world p) shows })
    (sum_end (count_one sets) ns i _ _ (omega arith) (c.loop-name.invariant.files sets are))
    (sum_end (bytes_one (world p) sets) ns i _ _ (omega arith) (c.loop-name.invariant.bytes sets (world p) are shows))
