use Rattle.lr_match.proofs.pattern.matches.Given as goal

abbrev pub ghosts-matches_alone : goal.ghosts-matches_alone
ghosts-matches_alone a = record { name = a.blank.name; parts = a.blank.parts }
