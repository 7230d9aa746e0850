use Rattle.std.proofs.Common.{subst, arith}
use Rattle.std.proofs.lemmas.List.{take_all}
use Rattle.lr_disk.proofs.ListingLemmas.{ArePaths, listed_are, listed_more, paths_more, take_kept}
use Rattle.lr_disk.proofs.listing.add_names.Goals as goal

pub loop-pair-preserved : goal.loop-pair-preserved
loop-pair-preserved c = record {
  listed = listed_more c.args.dir.now c.args.names.now c.loop-pair.pair-index c.pair-item.result _ _ c.pair-item.is c.loop-pair-test.true _ c.loop-pair.invariant.listed c.in_ok-add_name.ensures.ok;
  kept = take_kept c.args.into.now.items c.loop-pair.into.items c.add_name.new.into.items c.loop-pair.invariant.kept c.add_name.ensures.kept;
  paths = paths_more c.args.names.now c.loop-pair.pair-index c.pair-item.result c.pair-item.is c.loop-pair-test.true c.loop-pair.invariant.paths c.in_ok-add_name.ensures.path;
}

pub returns-clause-all : goal.returns-clause-all
returns-clause-all c =
    listed_are c.args.dir.now c.args.names.now c.bytes.ensures.path
    (subst ArePaths (take_all c.loop-pair.pair-index c.args.names.now (omega arith)) c.loop-pair.invariant.paths) c.requires

pub returns-in_err-add_name-clause-kept : goal.returns-in_err-add_name-clause-kept
returns-in_err-add_name-clause-kept c = take_kept c.args.into.now.items c.loop-pair.into.items c.add_name.new.into.items c.loop-pair.invariant.kept c.add_name.ensures.kept
