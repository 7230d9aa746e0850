-- How often a call lists a directory.
use Rattle.std.specs.Prelude.{ℕ, Bool, false, List, length, filter, bytes_eq}
use Rattle.lr_rules.specs.declared.path.Path.{Path}
use Rattle.lr_host.specs.declared.entry.Entry.{Entry}
use Rattle.lr_host.specs.declared.entry.Entry.TheVariants as entry

-- the entry lists this directory
abbrev pub is_listing_of : Path → Entry → Bool
is_listing_of dir (entry.List listed names) = bytes_eq listed dir
is_listing_of dir _ = false

-- how many of the entries do
abbrev pub listings_of : Path → List Entry → ℕ
listings_of dir ts = length (filter (is_listing_of dir) ts)
