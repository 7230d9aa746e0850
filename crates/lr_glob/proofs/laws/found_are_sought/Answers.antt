use Rattle.lr_glob.proofs.Seeking.{wildcards_seek, literals_give, found_were_seen}
use Rattle.lr_glob.proofs.laws.found_are_sought.Goals as goal

pub returns : goal.returns
returns c = record { wildcard = wildcards_seek; literal = literals_give; seen = found_were_seen }
