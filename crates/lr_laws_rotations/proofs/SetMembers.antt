-- The members of a set that looks saw are those that stand.
use Rattle.std.proofs.Common.{inl, inr, ◌∙◌, ap, List, reverse, pos}
use Rattle.lr_rules.specs.declared.path.Path.{Path}
use Rattle.lr_rules.specs.Dated.{stamp_key}
use Rattle.lr_rules.proofs.Options.{some_none}
use Rattle.lr_host.specs.declared.entry.Entry.{Entry}
use Rattle.lr_host.specs.Opening.{IsJournal}
use Rattle.lr_host.specs.Quiet.{ChangeNothing}
use Rattle.lr_host.specs.Sets.{LogSet, order_of}
use Rattle.lr_host.specs.Steady.{NoneAttached, IsKeyless}
use Rattle.lr_host.specs.Told.{Made}
use Rattle.lr_host.specs.World.{Past, world, names}
use Rattle.lr_host.proofs.Quiet.{since_as, since_of}
use Rattle.lr_laws.proofs.Moments.{keyed}
use Rattle.lr_family.specs.declared.stand.Member.{Member}
use Rattle.lr_laws_family.specs.Members.{IsNoMember, IsFamily, AreThere}
use Rattle.lr_laws_family.specs.Shown.{Shown}
use Rattle.lr_laws_family.proofs.Stood.{stand_behind}
use Rattle.lr_laws_rotations.proofs.DatedStands.{is_dated}
use Rattle.lr_laws_rotations.proofs.Turning.{key_at}

-- a path without a key is no member's
pub keyless_no_member : (s : LogSet) (x : Path) → IsKeyless s x → IsNoMember s.naming x
keyless_no_member s x keyless (inl m) = some_none (s.key x) (pos m.1.0) (ap s.key m.1.1.named ∙ key_at s m.1.0 (ap order_of m.0) m.1.1.bound) keyless
keyless_no_member s x keyless (inr d) = some_none (s.key x) (stamp_key d.0 d.1) (keyed s (is_dated s d.2.format d.2.dated) x d.0 d.1 d.2) keyless

pub set_stands : (s : LogSet) (members : List Member) (p q : Past) (es : List Entry) → IsFamily s.log s.naming → IsJournal p → NoneAttached s q → Made p es q → ChangeNothing es → Shown s.naming members (reverse es) → AreThere s.naming (names (world q)) members
set_stands s members p q es family journal none made still =
    stand_behind s.log s.naming members p q es family journal (since_as (IsKeyless s) (IsNoMember s.naming) p q (keyless_no_member s) (since_of (IsKeyless s) p q es made none)) made still
