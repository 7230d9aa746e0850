-- For proofs: one file, as it is put out.
use Rattle.std.specs.Prelude.{◌≡◌, ℕ, List, length, Option, Some}
use Rattle.lr_rules.specs.declared.path.Path.{Path}
use Rattle.lr_host.specs.declared.journal.Journal.{Journal}
use Rattle.lr_host.specs.Told.{Left}
use Rattle.lr_host.specs.Reading.{ReadsOf}
use Rattle.lr_report.specs.Puts.{Took}
use Rattle.lr_cat.specs.declared.texts.TextStop.{TextStop}
use Rattle.lr_cat.specs.Texts.{ReadsTextPart, ReadsWhole, TookBy, text_fault}

-- the whole file was read, and the output took it
pub record PassesOne (path : Path) (told later : Option Journal) (before after : Option (List ℕ)) : Type 0 where
  pub bytes : List ℕ
  pub reads : Left (ReadsWhole (record { path = path; bytes = bytes })) told later
  pub took : Took bytes before after

-- it was read so far, and the output took that, unless it failed
pub record PassesSome (path : Path) (why : TextStop) (told later : Option Journal) (before after : Option (List ℕ)) : Type 0 where
  pub bytes : List ℕ
  pub reads : Left (ReadsTextPart why (record { path = path; bytes = bytes })) told later
  pub took : TookBy (Some (text_fault why path)) bytes before after

-- it was read up to this place, and the output took that
pub record PassesTo (path : Path) (place : ℕ) (told later : Option Journal) (before after : Option (List ℕ)) : Type 0 where
  pub bytes : List ℕ
  pub place_is : length bytes ≡ place
  pub reads : Left (ReadsOf path bytes) told later
  pub took : Took bytes before after
