-- A file at a path that the tool spares.
use Rattle.std.proofs.Common.{◌≡◌, ⊎_elim, ℕ, ◌∙◌, List, []}
use Rattle.lr_rules.specs.declared.path.Path.{Path}
use Rattle.lr_host.specs.declared.thing.Thing.TheVariants as thing
use Rattle.lr_host.specs.declared.entry.Entry.{Entry}
use Rattle.lr_host.specs.declared.entry.Entry.TheVariants as entry
use Rattle.lr_host.specs.Kept.{IsWhole}
use Rattle.lr_host.specs.Opening.{IsJournal}
use Rattle.lr_host.specs.Told.{Each, IsWriters, Made, at_first, by_writer, by_tool}
use Rattle.lr_host.specs.World.{Past, World, world, names}
use Rattle.lr_host.proofs.Looked.{nothing_no_file}
use Rattle.lr_host.proofs.Made.{made_journal}
use Rattle.lr_host.proofs.More.{wrote_names}
use Rattle.lr_laws.proofs.Counting.{IsWritten, whole_on}
use Rattle.lr_laws.proofs.Files.{LeavesFile}
use Rattle.lr_laws.proofs.Parts.{named_once}
use Rattle.lr_laws.proofs.Walks.{tool_same}
use Rattle.lr_laws_family.proofs.Logs.{LeavesLog}

-- ---- it has its path

pub named_on : (x : Path) (g : ℕ) (p q : Past) (es : List Entry) → Made p es q → Each (LeavesLog x) es → names (world p) x ≡ thing.File g → names (world q) x ≡ thing.File g
named_on x g p _ _ at_first a n = n
named_on x g p _ es (by_writer {q = q} {e = e} m i f) a n =
    let r = named_on x g p q es m a n in ⊎_elim (λ same. same ∙ r) (λ new. absurd (nothing_no_file (names (world q) x) g new.0 r)) (wrote_names q e x i)
named_on x g p _ _ (by_tool {es = es} {q = q} {e = e} m i f) a n = tool_same q e x i a.0.1 ∙ named_on x g p q es m a.1 n

-- ---- it has its bytes

-- a writer's entry is none of the tool's writes
none_written : (w : World) (e : Entry) (g : ℕ) → IsWriters e → IsWritten w e g → ⊥
none_written w (entry.Attach v y at) g i n = n
none_written w (entry.Feed v bytes at) g i n = n
none_written w (entry.Flush v) g i n = n
none_written w (entry.Detach v) g i n = n
none_written w _ g i n = i

-- nor does the tool write to a file whose path it spares
spared_written : (q : Past) (x : Path) (g : ℕ) (e : Entry) → IsJournal q → names (world q) x ≡ thing.File g → LeavesFile x e → IsWritten (world q) e g → ⊥
spared_written q x g (entry.Appends y piece) j n l w = l (named_once q y x g j w n)
spared_written q x g (entry.Truncates y) j n l w = l (named_once q y x g j w n)
spared_written q x g _ j n l w = w

pub whole_spared : (x : Path) (g : ℕ) (p q : Past) (es : List Entry) → IsJournal p → Made p es q → Each (LeavesLog x) es → names (world p) x ≡ thing.File g → IsWhole p g → IsWhole q g
whole_spared x g p _ _ j at_first a n h = h
whole_spared x g p _ es j (by_writer {q = q} {e = e} m i f) a n h = whole_on q e g (λ w. none_written (world q) e g i w) (whole_spared x g p q es j m a n h)
whole_spared x g p _ _ j (by_tool {es = es} {q = q} {e = e} m i f) a n h =
    whole_on q e g (λ w. spared_written q x g e (made_journal p q es m j) (named_on x g p q es m a.1 n) a.0.0 w) (whole_spared x g p q es j m a.1 n h)

-- while writers alone do something
pub whole_waits : (g : ℕ) (p q : Past) → Made p [] q → IsWhole p g → IsWhole q g
whole_waits g p _ at_first h = h
whole_waits g p _ (by_writer {q = q} {e = e} m i f) h = whole_on q e g (λ w. none_written (world q) e g i w) (whole_waits g p q m h)
