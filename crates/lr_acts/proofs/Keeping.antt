-- A name stays behind calls that neither unlink it nor rename what has it.
use Rattle.std.proofs.Common.{◌≡◌, ◌≢◌, ⊎_elim, false, refl, sym, ◌∙◌, List, reverse, Option}
use Rattle.lr_rules.specs.declared.path.Path.{Path}
use Rattle.lr_host.specs.declared.thing.Thing.{Thing}
use Rattle.lr_host.specs.declared.thing.Thing.TheVariants as thing
use Rattle.lr_host.specs.declared.entry.Entry.{Entry}
use Rattle.lr_host.specs.declared.entry.Entry.TheVariants as entry
use Rattle.lr_host.specs.declared.entry.Entry.TheVariants.{Look, Reads, Renames, Makes, Appends, Unlinks, MakesDir}
use Rattle.lr_host.specs.declared.journal.Journal.{Journal}
use Rattle.lr_host.specs.World.{Past, ◌▸◌, past, world, Names, names, put}
use Rattle.lr_host.specs.Fits.{Fits}
use Rattle.lr_host.specs.Steps.{is_naming}
use Rattle.lr_host.specs.Told.{IsWriters, IsTools, Each, Made, at_first, by_writer, by_tool, Left, not_told, is_told}
use Rattle.lr_host.proofs.Each.{each_in_order}
use Rattle.lr_host.proofs.Left.{still_step}
use Rattle.lr_host.proofs.Looked.{nothing_no_file}
use Rattle.lr_host.proofs.More.{not_more, wrote_names}
use Rattle.lr_host.proofs.Names.{put_cases}
use Rattle.lr_acts.specs.Named.{PathIsNamed}

-- it doesn't take the name of this path away
abbrev pub KeepsName : Path → Entry → Type 0
KeepsName x (Renames from to) = from ≡ x → ⊥
KeepsName x (Unlinks y) = y ≡ x → ⊥
KeepsName x _ = Unit {0}

put_stays : (n : Names) (y x : Path) (t : Thing) → (y ≡ x → t ≢ thing.Nothing) → n x ≢ thing.Nothing → put n y t x ≢ thing.Nothing
put_stays n y x t here ne gone = ⊎_elim (λ a. here (sym a.0) a.1) (λ b. ne b.1) (put_cases n y t x thing.Nothing gone)

still_named : (q : Past) (x : Path) (e : Entry) → IsTools e → Fits (world q) e → is_naming e ≡ false → names (world q) x ≢ thing.Nothing → names (world (q ▸ e)) x ≢ thing.Nothing
still_named q x e i f h ne = not_more (names (world q)) (names (world (q ▸ e))) x thing.Nothing (still_step q e i f h) (λ g s. cc) ne

tool_keeps : (q : Past) (x : Path) (e : Entry) → IsTools e → Fits (world q) e → KeepsName x e → names (world q) x ≢ thing.Nothing → names (world (q ▸ e)) x ≢ thing.Nothing
tool_keeps q x (Renames from to) i f k ne = put_stays (put (names (world q)) from thing.Nothing) to x (names (world q) from) (λ s gone. nothing_no_file (names (world q) from) f.0.0 gone f.0.1) (put_stays (names (world q)) from x thing.Nothing (λ s. absurd (k s)) ne)
tool_keeps q x (Unlinks y) i f k ne = put_stays (names (world q)) y x thing.Nothing (λ s. absurd (k s)) ne
tool_keeps q x (MakesDir y mode) i f k ne = put_stays (names (world q)) y x thing.Directory (λ s gone. cc) ne
tool_keeps q x (Makes y mode) i f k ne = still_named q x (Makes y mode) i f refl ne
tool_keeps q x (entry.Starts state now rules) i f k ne = ne
tool_keeps q x entry.Ends i f k ne = ne
tool_keeps q x (Look y seen) i f k ne = ne
tool_keeps q x (entry.List dir listed) i f k ne = ne
tool_keeps q x (Reads y from piece) i f k ne = ne
tool_keeps q x (Appends y bytes) i f k ne = ne
tool_keeps q x (entry.Truncates y) i f k ne = ne
tool_keeps q x (entry.SyncsFile y) i f k ne = ne
tool_keeps q x (entry.SyncsDir y) i f k ne = still_named q x (entry.SyncsDir y) i f refl ne
tool_keeps q x (entry.Runs program args input ended) i f k ne = ne
tool_keeps q x _ i f k ne = absurd i

pub writer_keeps : (q : Past) (x : Path) (e : Entry) → IsWriters e → names (world q) x ≢ thing.Nothing → names (world (q ▸ e)) x ≢ thing.Nothing
writer_keeps q x e i ne gone = ⊎_elim (λ same. ne (sym same ∙ gone)) (λ new. ne new.0) (wrote_names q e x i)

made_keeps : (x : Path) (p q : Past) (es : List Entry) → Made p es q → Each (KeepsName x) es → names (world p) x ≢ thing.Nothing → names (world q) x ≢ thing.Nothing
made_keeps x p _ _ at_first k ne = ne
made_keeps x p _ es (by_writer {q = q} {e = e} m i f) k ne = writer_keeps q x e i (made_keeps x p q es m k ne)
made_keeps x p _ _ (by_tool {es = es} {q = q} {e = e} m i f) k ne = tool_keeps q x e i f k.0 (made_keeps x p q es m k.1 ne)

pub left_keeps : {P : List Entry → Type 0} {o n : Option Journal} (x : Path) → Left P o n → ((ts : List Entry) → P ts → Each (KeepsName x) ts) → PathIsNamed x o → PathIsNamed x n
left_keeps x not_told f named = tt
left_keeps x (is_told {j = j} {k = k} {es = es} m h) f named = made_keeps x (past j) (past k) es m (each_in_order (KeepsName x) es (f (reverse es) h)) named
