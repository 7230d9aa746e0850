-- A run over two logs: its steps, and its entries as far as it made them.
use Rattle.std.specs.Prelude.{List, [], ◌∷◌, ◌++◌, Some, None, codes}
use Rattle.lr_rules.specs.declared.clock.Clock.{Clock}
use Rattle.lr_host.specs.declared.entry.Entry.{Entry}
use Rattle.lr_host.specs.declared.entry.Entry.TheVariants.{Starts, Ends, Look, Renames, Makes, Appends, Unlinks, SyncsFile}
use Rattle.lr_host.specs.declared.entry.Entry.TheVariants.{SyncsDir}
use Rattle.lr_laws_rotations.specs.Logs.{state, part, a_log, a_first, a_second, a_third, b_log, b_first, rules, directory, looks}

-- the highest place first, then the log, then the member that is one too many
abbrev pub a_steps : List Entry
a_steps = Renames a_second a_third ∷ Renames a_first a_second ∷ Renames a_log a_first ∷ Unlinks a_third ∷ []

-- the log alone
abbrev pub b_steps : List Entry
b_steps = Renames b_log b_first ∷ []

abbrev pub steps : List Entry
steps = a_steps ++ b_steps

-- a run that made these steps, at the moment of this clock
abbrev pub two_logs_run : Clock → List Entry → List Entry
two_logs_run clock made = Look (codes "/s") (Some directory) ∷ Starts state clock.now rules ∷ (looks ++ (made ++ Ends ∷ []))

-- the state is written beside itself, and put in its place
abbrev pub saves : List Entry
saves = Makes part None ∷ Appends part (codes "new state") ∷ SyncsFile part ∷ Renames part state ∷ SyncsDir (codes "/s") ∷ []
