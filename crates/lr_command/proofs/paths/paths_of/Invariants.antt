use Rattle.std.proofs.Common.{◌≡◌, map, take, true}
use Rattle.std.specs.List.{list_all}
use Rattle.lr_rules.specs.Path.{cleaned}
use Rattle.lr_command.specs.Words.{is_path}
use Rattle.lr_command.proofs.paths.paths_of.Given as goal

abbrev pub invariant-loop-word : goal.invariant-loop-word
invariant-loop-word l = record {
  paths : l.paths.items ≡ map (cleaned l.here) (map (λ s. s.now) (take l.word-index l.words));
  are_paths : list_all (is_path l.here) (map (λ s. s.now) (take l.word-index l.words)) ≡ true;
}
