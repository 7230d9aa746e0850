-- The disk on which a trial begins, and its logs.
use Rattle.std.specs.Prelude.{ℕ, zero, suc, ◌+◌, ◌%◌, ◌==◌, cond, false, pos, List, [], ◌∷◌, ◌++◌, codes, decimal, length}
use Rattle.std.specs.Prelude.{replicate, None}
use Rattle.lr_rules.specs.declared.path.Path.{Path}
use Rattle.lr_rules.specs.declared.rule.Naming.{Naming}
use Rattle.lr_host.specs.declared.journal.OpenFile.{OpenFile}
use Rattle.lr_host.specs.declared.journal.Opening.{Opening}
use Rattle.lr_disk.specs.State.{opened_journal}
use Rattle.lr_memhost.specs.Acts.{View}
use Rattle.lr_nights.specs.Draws.{behind_two, first_of, second_of}

-- the path of the log with this number
abbrev pub log_path : ℕ → Path
log_path log = codes "/v/" ++ (decimal log ++ codes ".log")

-- ---- the texts

abbrev pub create_line : ℕ → List ℕ
create_line draw = cond (draw % 2 == 0) (codes "create\n") []

-- the definition of a log: two draws say how many members it keeps, 1 to 7, and whether it is made anew
abbrev pub definition : ℕ → ℕ → List ℕ
definition log x = log_path log ++ (codes " {\ndaily\nrotate "
    ++ (decimal (1 + first_of x % 7) ++ (codes "\n" ++ (create_line (second_of x) ++ codes "}\n"))))

-- those of so many logs from this one on
abbrev pub definitions_from : ℕ → ℕ → ℕ → List ℕ
definitions_from log zero x = []
definitions_from log (suc left) x = definition log x ++ definitions_from (log + 1) left (behind_two x)

-- the log was rotated as this year began
abbrev pub state_line : ℕ → List ℕ
state_line log = codes "\"" ++ (log_path log ++ codes "\" 2024-1-1-0:0:0\n")

abbrev pub state_lines_from : ℕ → ℕ → List ℕ
state_lines_from log zero = []
state_lines_from log (suc left) = state_line log ++ state_lines_from (log + 1) left

-- ---- the disk

-- a file that was synced whole
abbrev pub file_of : List ℕ → OpenFile
file_of bytes = record { bytes = bytes; synced = length bytes; mtime = pos 1704067500; mode = None }

-- each log has the identity of its number
abbrev pub log_names_from : ℕ → ℕ → List (Path × ℕ)
log_names_from log zero = []
log_names_from log (suc left) = (log_path log, log) ∷ log_names_from (log + 1) left

-- the writer of each log, who has its number, holds it
abbrev pub holds_from : ℕ → ℕ → List (ℕ × ℕ)
holds_from log zero = []
holds_from log (suc left) = (log, log) ∷ holds_from (log + 1) left

abbrev pub directories : List Path
directories = codes "/" ∷ codes "/etc" ∷ codes "/v" ∷ codes "/var" ∷ codes "/var/lib" ∷ codes "/var/lib/logrotate" ∷ []

-- The disk: so many empty logs, each held by its writer, the configuration `/etc/c`, and the state file.
abbrev pub trial_opening : ℕ → Opening
trial_opening logs = record {
  files = replicate logs (file_of []) ++ (file_of (definitions_from 0 logs logs) ∷ file_of
      (codes "logrotate state -- version 2\n" ++ state_lines_from 0 logs) ∷ []);
  dirs = directories;
  others = [];
  names = log_names_from 0 logs ++ ((codes "/etc/c", logs) ∷ (codes "/var/lib/logrotate/status", logs + 1) ∷ []);
  holds = holds_from 0 logs;
}

-- the host on which a trial begins: nothing was done, and no call is to fail
abbrev pub trial_view : ℕ → View
trial_view logs = record {
  journal = opened_journal (trial_opening logs);
  acts = [];
  failing = [];
  calls = 0;
  faults = 0;
  starved = 0;
  down = false;
  rest = record { ends = []; piece = 65536; mine = false; another = false; bad_ends = 0; held = 0 };
}

-- ---- the names

-- how the members of the log are named
abbrev pub log_naming : ℕ → Naming
log_naming log = record { dir = codes "/v"; base = decimal log ++ codes ".log"; ext = []; start = 1; dated = None; aside = false }

abbrev pub named_log : ℕ → Path × Naming
named_log log = (log_path log, log_naming log)

-- the logs of a trial from this one on, and how their members are named
abbrev pub named_logs_from : ℕ → ℕ → List (Path × Naming)
named_logs_from log zero = []
named_logs_from log (suc left) = named_log log ∷ named_logs_from (log + 1) left
