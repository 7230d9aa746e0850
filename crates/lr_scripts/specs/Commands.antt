-- The commands that scripts and mails are started by.
use Rattle.std.specs.Prelude.{ℕ, Bool, not, List, [], ◌∷◌, ◌++◌, Option, Some, None, codes, if◌then◌else◌}
use Rattle.std.specs.List.{flat_map}
use Rattle.lr_rules.specs.declared.path.Path.{Path}
use Rattle.lr_rules.specs.declared.rule.Rule.{Rule}
use Rattle.lr_scripts.specs.declared.command.Command.{Command}
use Rattle.lr_scripts.specs.declared.removal.Removal.{Removal}

-- each of the words behind a space
abbrev pub behind_spaces : List (List ℕ) → List ℕ
behind_spaces words = flat_map (λ (word : List ℕ). 32 ∷ word) words

-- the words, with one space between
abbrev pub spaced : List (List ℕ) → List ℕ
spaced [] = []
spaced (word ∷ words) = word ++ behind_spaces words

-- a script as a shell runs it, with its arguments
abbrev pub script_command : Option (List ℕ) → List (List ℕ) → Option Command
script_command None args = None
script_command (Some text) args = Some (record {
  program = codes "/bin/sh";
  args = codes "-c" ∷ text ∷ codes "logrotate_script" ∷ args;
  input = None;
})

-- the command, where it is so
abbrev pub where_so : Bool → Option Command → Option Command
where_so b command = if b then command else None

-- ---- before the removal of a file

-- the mail of a file, where there is an address: the mailer with the path of the file's log as the subject, and the file as its
-- input
abbrev pub mail : Path → Option (List ℕ) → Path → Path → Option Command
mail mailer None log file = None
mail mailer (Some address) log file = Some (record { program = mailer; args = codes "-s" ∷ log ∷ address ∷ []; input = Some file })

-- The removal of a file of this log with the programs that come before its unlink: the definition's preremove with the file's path,
-- and the mail of the file, unless the definition says `mailfirst`.
abbrev pub with_programs : Rule → Path → Path → Removal → Removal
with_programs rule mailer log file = record {
  path = file.path;
  preremove = script_command rule.scripts.preremove (file.path ∷ []);
  mail = where_so (not rule.mailfirst) (mail mailer rule.mail log file.path);
}
