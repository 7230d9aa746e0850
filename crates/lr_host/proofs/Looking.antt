-- Entries that are looks, listings and reads.
use Rattle.std.proofs.Common.{List, refl, sym, subst, ◌≡◌, [], Option, ◌∷◌, true, Some, None}
use Rattle.lr_rules.specs.declared.path.Path.{Path}
use Rattle.lr_host.specs.declared.entry.Entry.{Entry}
use Rattle.lr_host.specs.Quiet.{IsQuiet, AreQuiet}
use Rattle.lr_host.specs.Looking.{IsLooking, AreLooking, IsSight, AreSights}
use Rattle.lr_host.specs.declared.entry.Entry.TheVariants as entry
use Rattle.lr_host.proofs.Each.{each_as, each_append}
use Rattle.lr_host.specs.Told.{Then, Left}
use Rattle.lr_host.specs.declared.thing.Seen.{Seen}
use Rattle.lr_host.specs.Looks.{Sees, is_dir_kind, IsDir, is_dir}
use Rattle.lr_host.specs.declared.journal.Journal.{Journal}
use Rattle.lr_host.proofs.Left.{left_as}
use Rattle.lr_host.specs.declared.thing.Kind.{Kind}
use Rattle.lr_host.specs.declared.thing.Kind.TheVariants as kind

pub look_quiet : (e : Entry) → IsLooking e → IsQuiet e
look_quiet (entry.Look x seen) i = (tt, refl)
look_quiet (entry.List dir listed) i = (tt, refl)
look_quiet _ i = absurd i

-- they change nothing
pub looks_quiet : (ts : List Entry) → AreLooking ts → AreQuiet ts
looks_quiet ts a = each_as IsLooking IsQuiet ts look_quiet a

pub looking_both : {P Q : List Entry → Type 0} (ts : List Entry) → ((us : List Entry) → P us → AreLooking us) → ((us : List Entry) → Q us → AreLooking us) → Then P Q ts → AreLooking ts
looking_both ts f g t = subst AreLooking (sym t.joined) (each_append IsLooking t.front t.back (f t.front t.first) (g t.back t.second))

pub looking_none : (ts : List Entry) → ts ≡ [] → AreLooking ts
looking_none ts e = subst AreLooking (sym e) tt

pub looking_sees : (x : Path) (P : Option Seen → Type 0) (ts : List Entry) → Sees x P ts → AreLooking ts
looking_sees x P ts s = subst AreLooking (sym s.look) (tt, tt)

pub sight_quiet : (e : Entry) → IsSight e → IsQuiet e
sight_quiet (entry.Look x seen) i = (tt, refl)
sight_quiet (entry.List dir listed) i = (tt, refl)
sight_quiet (entry.Reads x from piece) i = (tt, refl)
sight_quiet _ i = absurd i

-- nor do reads
pub sights_quiet : (ts : List Entry) → AreSights ts → AreQuiet ts
sights_quiet ts a = each_as IsSight IsQuiet ts sight_quiet a

-- a look, and what it saw
pub sees : (x : Path) (P : Option Seen → Type 0) (seen : Option Seen) {o n : Option Journal} → Left (λ ts. ts ≡ entry.Look x seen ∷ []) o n → P seen → Left (Sees x P) o n
sees x P seen l p = left_as l (λ ts e. record { seen = seen; is = p; look = e })

pub dir_kind : (k : Kind) → is_dir_kind k ≡ true → k ≡ kind.Dir
dir_kind kind.Dir h = refl
dir_kind kind.File h = absurd (cc)
dir_kind kind.Other h = absurd (cc)

pub is_a_dir : (seen : Option Seen) → is_dir seen ≡ true → IsDir seen
is_a_dir None h = absurd (cc)
is_a_dir (Some seen) h = dir_kind seen.kind h
