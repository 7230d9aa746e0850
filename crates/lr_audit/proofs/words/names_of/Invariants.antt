use Rattle.std.proofs.Common.{◌≡◌, map, take, true}
use Rattle.std.specs.List.{list_all}
use Rattle.lr_rules.specs.Path.{cleaned}
use Rattle.lr_command.specs.Words.{is_name}
use Rattle.lr_audit.proofs.words.names_of.Given as goal

abbrev pub invariant-loop-word : goal.invariant-loop-word
invariant-loop-word l = record {
  paths : l.paths.items ≡ map (cleaned l.here) (take l.word-index l.words);
  are_names : list_all (is_name l.here) (take l.word-index l.words) ≡ true;
}
