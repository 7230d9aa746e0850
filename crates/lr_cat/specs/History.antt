-- The whole history of a log: which files it has, and what was read of them.
use Rattle.std.specs.Prelude.{◌≡◌, List, ◌++◌, ℕ, true, Ok}
use Rattle.lr_rules.specs.declared.path.Path.{Path}
use Rattle.lr_rules.specs.Names.{aside_path}
use Rattle.lr_host.specs.declared.entry.Entry.TheVariants.{Starts}
use Rattle.lr_host.specs.Fits.{IsFileAt}
use Rattle.lr_host.specs.Lists.{IsIn}
use Rattle.lr_host.specs.Safe.{IsPrefix}
use Rattle.lr_host.specs.World.{Past, ◌▸◌, world, names}
use Rattle.lr_laws_family.specs.Whole.{Has}
use Rattle.lr_family.specs.Parts.{IsMember}
use Rattle.lr_cat.specs.declared.words.Wanted.{Wanted}
use Rattle.lr_cat.specs.Came.{Came}
use Rattle.lr_cat.specs.Texts.{FileText}

-- one of the texts is of the path
abbrev pub HasTextOf : List FileText → Path → Type 0
HasTextOf texts x = (t : FileText) × IsIn t texts × (t.path ≡ x)

-- What was read of a file: a first part of its bytes at the end, and of those that it had at the beginning, if it stood, all.
pub record IsTextRead (t : FileText) (before after : Past) : Type 0 where
  pub file : ℕ
  -- at the end the path names the file, which has the text, and then what came since
  pub later : List ℕ
  pub now : Has t.path file (t.bytes ++ later) after
  -- what the path named at the beginning is the same file, and the text has its bytes first
  pub all : (g : ℕ) (bytes : List ℕ) → Has t.path g bytes before → (g ≡ file) × ((more : List ℕ) × (t.bytes ≡ bytes ++ more))
  -- of a file to which nothing was added meanwhile these are its bytes
  pub same : (bytes : List ℕ) → Has t.path file bytes before → Has t.path file bytes after → t.bytes ≡ bytes

-- The run began at this moment; each member that stood then is among the files; so is the file that a run which broke off had set
-- aside, where the log's way does that, and it is told of; and so is the log, if it stood. Each text is its file's.
pub record IsHistory (w : Wanted) (c : Came) (before after : Past) : Type 0 where
  pub at : Past
  pub since : IsPrefix before at
  pub begun : IsPrefix (at ▸ Starts w.state c.clock.now c.rules) after
  pub members : (x : Path) → IsMember c.naming x → IsFileAt (names (world at)) x → HasTextOf c.texts x
  pub aside : c.naming.aside ≡ true → IsFileAt (names (world at)) (aside_path w.log)
      → HasTextOf c.texts (aside_path w.log) × (c.how ≡ Ok true)
  pub log : IsFileAt (names (world at)) w.log → HasTextOf c.texts w.log
  pub texts : (t : FileText) → IsIn t c.texts → IsTextRead t before after
