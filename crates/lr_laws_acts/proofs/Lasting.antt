-- A directory stands whatever is called, so a file can be made there later on, too.
use Rattle.std.proofs.Common.{◌≡◌, Bool, true, false, refl, sym, ◌∙◌, ap, Option, List}
use Rattle.std.specs.Prelude.{ℕ}
use Rattle.lr_rules.specs.declared.path.Path.{Path}
use Rattle.lr_rules.specs.Path.{parent_of}
use Rattle.lr_host.specs.declared.thing.Thing.TheVariants as thing
use Rattle.lr_host.specs.declared.entry.Entry.{Entry}
use Rattle.lr_host.specs.declared.entry.Entry.TheVariants as entry
use Rattle.lr_host.specs.declared.journal.Journal.{Journal}
use Rattle.lr_host.specs.World.{Past, ◌▸◌, past, world, put, names}
use Rattle.lr_host.specs.Fits.{Fits, IsDirectoryAt}
use Rattle.lr_host.specs.Told.{Made, at_first, by_writer, by_tool, Left, not_told, is_told, Can}
use Rattle.lr_host.specs.Steps.{is_naming}
use Rattle.lr_host.proofs.Left.{still_step}
use Rattle.lr_host.proofs.Looked.{nothing_no_dir, file_no_dir}
use Rattle.lr_host.proofs.More.{directory_more, wrote_names}
use Rattle.lr_host.proofs.Names.{put_other}

dir_named : (q : Past) (e : Entry) (d : Path) → Fits (world q) e → is_naming e ≡ true → IsDirectoryAt (names (world q)) d → IsDirectoryAt (names (world (q ▸ e))) d
dir_named q (entry.Renames from to) d f i h =
    put_other (put (names (world q)) from thing.Nothing) to d (names (world q) from) (λ same. f.1 (ap (names (world q)) (sym same) ∙ h))
    ∙ (put_other (names (world q)) from d thing.Nothing (λ same. file_no_dir (names (world q) from) f.0.0 f.0.1 (ap (names (world q)) (sym same) ∙ h)) ∙ h)
dir_named q (entry.Unlinks x) d f i h = put_other (names (world q)) x d thing.Nothing (λ same. file_no_dir (names (world q) x) f.0 f.1 (ap (names (world q)) (sym same) ∙ h)) ∙ h
dir_named q (entry.MakesDir x mode) d f i h = put_other (names (world q)) x d thing.Directory (λ same. nothing_no_dir (names (world q) x) f.1 (ap (names (world q)) (sym same) ∙ h)) ∙ h
dir_named q _ d f i h = absurd (cc)

-- a directory stays one
pub dir_walk : (p q : Past) (es : List Entry) (d : Path) → Made p es q → IsDirectoryAt (names (world p)) d → IsDirectoryAt (names (world q)) d
dir_walk p _ _ d at_first h = h
dir_walk p _ es d (by_writer {q = q} {e = e} m i f) h = directory_more (names (world q)) (names (world (q ▸ e))) d (λ y. wrote_names q e y i) (dir_walk p q es d m h)
dir_walk p _ _ d (by_tool {es = es} {q = q} {e = e} m i f) h = go (is_naming e) refl (dir_walk p q es d m h)
  where
    go : (b : Bool) → is_naming e ≡ b → IsDirectoryAt (names (world q)) d → IsDirectoryAt (names (world (q ▸ e))) d
    go true n r = dir_named q e d f n r
    go false n r = directory_more (names (world q)) (names (world (q ▸ e))) d (still_step q e i f n) r

-- a file can be made at the path later on, too
pub makes_later : (x : Path) (mode : Option ℕ) {P : List Entry → Type 0} {o m : Option Journal} → Left P o m → Can o (entry.Makes x mode) → Can m (entry.Makes x mode)
makes_later x mode not_told can = record { can = tt }
makes_later x mode (is_told {j = j} {k = k} {es = es} m h) can = record { can = dir_walk (past j) (past k) es (parent_of x) m can.can }
