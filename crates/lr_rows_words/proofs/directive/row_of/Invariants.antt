use Rattle.lr_rows_words.proofs.directive.row_of.Given as goal

abbrev pub ghosts-row_at : goal.ghosts-row_at
ghosts-row_at a = record { name = a.blank.name; parts = a.blank.parts }
