use Rattle.std.proofs.Common.{◌≡◌, ◌++◌, take, drop, length}
use Rattle.lr_disk.specs.Names.{listed_in}
use Rattle.lr_disk.proofs.ListingLemmas.{ArePaths}
use Rattle.lr_disk.proofs.listing.add_names.Given as goal

abbrev pub invariant-loop-pair : goal.invariant-loop-pair
invariant-loop-pair l = record {
  listed : l.into.items ++ listed_in l.dir (drop l.pair-index l.names) ≡ l.fn.into.items ++ listed_in l.dir l.names;
  kept : take (length l.fn.into.items) l.into.items ≡ l.fn.into.items;
  paths : ArePaths (take l.pair-index l.names);
}
