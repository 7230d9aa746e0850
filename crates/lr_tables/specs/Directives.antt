-- The table of the directives.
use Rattle.std.specs.Prelude.{ℕ, List, [], ◌∷◌, Option, Some, None, map, codes}
use Rattle.lr_tables.specs.declared.keyed.Row.{Row}
use Rattle.lr_tables.specs.declared.directive.Directive.{Directive}
use Rattle.lr_tables.specs.declared.directive.Directive.TheVariants as is

-- what a row says: its word, its directive, and the directive that it undoes
pub record RowSays : Type 0 where
  pub word : List ℕ
  pub directive : Directive
  pub undoes : Option Directive

abbrev pub sets : List ℕ → Directive → RowSays
sets word directive = record { word = word; directive = directive; undoes = None }

abbrev pub undoes : List ℕ → Directive → Directive → RowSays
undoes word directive other = record { word = word; directive = directive; undoes = Some other }

abbrev pub contents : List Row → List RowSays
contents rows = map (λ row. record { word = row.word.now; directive = row.directive; undoes = row.undoes }) rows

abbrev pub directive_table : List RowSays
directive_table =
    sets (codes "addextension") is.Addextension ∷
    sets (codes "allowhardlink") is.Allowhardlink ∷
    sets (codes "compress") is.Compress ∷
    sets (codes "compresscmd") is.Compresscmd ∷
    sets (codes "compressext") is.Compressext ∷
    sets (codes "compressoptions") is.Compressoptions ∷
    sets (codes "copy") is.Copy ∷
    sets (codes "copytruncate") is.Copytruncate ∷
    sets (codes "create") is.Create ∷
    sets (codes "createolddir") is.Createolddir ∷
    sets (codes "daily") is.Daily ∷
    sets (codes "dateext") is.Dateext ∷
    sets (codes "dateformat") is.Dateformat ∷
    sets (codes "datehourago") is.Datehourago ∷
    sets (codes "dateserial") is.Dateserial ∷
    sets (codes "dateyesterday") is.Dateyesterday ∷
    sets (codes "delaycompress") is.Delaycompress ∷
    sets (codes "endscript") is.Endscript ∷
    sets (codes "extension") is.Extension ∷
    sets (codes "firstaction") is.Firstaction ∷
    sets (codes "hourly") is.Hourly ∷
    undoes (codes "ifempty") is.Ifempty is.Notifempty ∷
    sets (codes "ignoreduplicates") is.Ignoreduplicates ∷
    sets (codes "include") is.Include ∷
    sets (codes "lastaction") is.Lastaction ∷
    sets (codes "mail") is.Mail ∷
    undoes (codes "mailfirst") is.Mailfirst is.Maillast ∷
    undoes (codes "maillast") is.Maillast is.Mailfirst ∷
    sets (codes "maxage") is.Maxage ∷
    sets (codes "maxsize") is.Maxsize ∷
    sets (codes "minage") is.Minage ∷
    sets (codes "minsize") is.Minsize ∷
    sets (codes "missingok") is.Missingok ∷
    sets (codes "monthly") is.Monthly ∷
    undoes (codes "noallowhardlink") is.Noallowhardlink is.Allowhardlink ∷
    undoes (codes "nocompress") is.Nocompress is.Compress ∷
    undoes (codes "nocopy") is.Nocopy is.Copy ∷
    undoes (codes "nocopytruncate") is.Nocopytruncate is.Copytruncate ∷
    undoes (codes "nocreate") is.Nocreate is.Create ∷
    undoes (codes "nocreateolddir") is.Nocreateolddir is.Createolddir ∷
    undoes (codes "nodateext") is.Nodateext is.Dateext ∷
    undoes (codes "nodateserial") is.Nodateserial is.Dateserial ∷
    undoes (codes "nodelaycompress") is.Nodelaycompress is.Delaycompress ∷
    undoes (codes "nomail") is.Nomail is.Mail ∷
    undoes (codes "nomissingok") is.Nomissingok is.Missingok ∷
    undoes (codes "noolddir") is.Noolddir is.Olddir ∷
    undoes (codes "norenamecopy") is.Norenamecopy is.Renamecopy ∷
    undoes (codes "nosharedscripts") is.Nosharedscripts is.Sharedscripts ∷
    undoes (codes "noshred") is.Noshred is.Shred ∷
    undoes (codes "notifempty") is.Notifempty is.Ifempty ∷
    sets (codes "olddir") is.Olddir ∷
    sets (codes "postrotate") is.Postrotate ∷
    sets (codes "preremove") is.Preremove ∷
    sets (codes "prerotate") is.Prerotate ∷
    sets (codes "renamecopy") is.Renamecopy ∷
    sets (codes "rotate") is.Rotate ∷
    sets (codes "sharedscripts") is.Sharedscripts ∷
    sets (codes "shred") is.Shred ∷
    sets (codes "shredcycles") is.Shredcycles ∷
    sets (codes "size") is.Size ∷
    sets (codes "start") is.Start ∷
    sets (codes "su") is.Su ∷
    sets (codes "tabooext") is.Tabooext ∷
    sets (codes "taboopat") is.Taboopat ∷
    sets (codes "uncompresscmd") is.Uncompresscmd ∷
    sets (codes "weekly") is.Weekly ∷
    sets (codes "yearly") is.Yearly ∷
    []
