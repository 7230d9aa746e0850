use Rattle.lr_forms.proofs.row.directive_of.Given as goal

abbrev pub ghosts-find_row : goal.ghosts-find_row
ghosts-find_row a = record { name = a.blank.name; parts = a.blank.parts }
