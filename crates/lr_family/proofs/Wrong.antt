-- Which path looks at a directory and at members show to be none.
use Rattle.std.proofs.Common.{◌≡◌, ◌≢◌, List, [], ◌∷◌, ◌++◌, map, Option, Some, None, refl, ap, ◌∙◌}
use Rattle.std.proofs.lemmas.List.Elements.{All-head, All-tail}
use Rattle.lr_rules.specs.declared.path.Path.{Path}
use Rattle.lr_host.specs.declared.thing.Kind.{Kind}
use Rattle.lr_host.specs.declared.thing.Kind.TheVariants as kind
use Rattle.lr_host.specs.declared.thing.Seen.{Seen}
use Rattle.lr_host.specs.declared.entry.Entry.{Entry}
use Rattle.lr_host.specs.declared.entry.Entry.TheVariants as entry
use Rattle.lr_host.specs.Looks.{Sees, IsDir, IsNoDir, IsNoFile, IsFileOrGone}
use Rattle.lr_family.specs.Looks.{MemberSight, spot_look, AreFilesOrGone}

abbrev pub by_file : Path → Kind → Option Path → Option Path
by_file x kind.File rest = rest
by_file x kind.Dir rest = Some x
by_file x kind.Other rest = Some x

abbrev pub by_sight : Path → Option Seen → Option Path → Option Path
by_sight x None rest = rest
by_sight x (Some seen) rest = by_file x seen.kind rest

abbrev pub wrong_member : List Entry → Option Path
wrong_member [] = None
wrong_member (entry.Look x seen ∷ ts) = by_sight x seen (wrong_member ts)
wrong_member (_ ∷ ts) = None

abbrev pub past_list : List Entry → Option Path
past_list [] = None
past_list (e ∷ ts) = wrong_member ts

abbrev pub by_dir : Path → Kind → List Entry → Option Path
by_dir x kind.Dir ts = past_list ts
by_dir x kind.File ts = Some x
by_dir x kind.Other ts = Some x

abbrev pub by_look : Path → Option Seen → List Entry → Option Path
by_look x None ts = None
by_look x (Some seen) ts = by_dir x seen.kind ts

abbrev pub wrong : List Entry → Option Path
wrong [] = None
wrong (entry.Look x seen ∷ ts) = by_look x seen ts
wrong (_ ∷ ts) = None

pub no_dir_wrong : (x : Path) (seen : Option Seen) (ts : List Entry) → IsNoDir seen → by_look x seen ts ≡ Some x
no_dir_wrong x None ts h = absurd h
no_dir_wrong x (Some seen) ts h = go seen.kind h
  where
    go : (k : Kind) → k ≢ kind.Dir → by_dir x k ts ≡ Some x
    go kind.Dir h = absurd (h refl)
    go kind.File h = refl
    go kind.Other h = refl

pub dir_passed : (x : Path) (seen : Option Seen) (ts : List Entry) → IsDir seen → by_look x seen ts ≡ past_list ts
dir_passed x None ts h = absurd h
dir_passed x (Some seen) ts h = ap (λ k. by_dir x k ts) h

pub no_file_wrong : (x : Path) (seen : Option Seen) (rest : Option Path) → IsNoFile seen → by_sight x seen rest ≡ Some x
no_file_wrong x None rest h = absurd h
no_file_wrong x (Some seen) rest h = go seen.kind h
  where
    go : (k : Kind) → k ≢ kind.File → by_file x k rest ≡ Some x
    go kind.File h = absurd (h refl)
    go kind.Dir h = refl
    go kind.Other h = refl

pub file_passed : (x : Path) (seen : Option Seen) (rest : Option Path) → IsFileOrGone seen → by_sight x seen rest ≡ rest
file_passed x None rest h = refl
file_passed x (Some seen) rest h = ap (λ k. by_file x k rest) h

pub sights_passed : (sights : List MemberSight) (ts : List Entry) → AreFilesOrGone sights → wrong_member (map spot_look sights ++ ts) ≡ wrong_member ts
sights_passed [] ts h = refl
sights_passed (g ∷ gs) ts h = file_passed g.spot.path g.seen (wrong_member (map spot_look gs ++ ts)) (All-head (λ (g : MemberSight). IsFileOrGone g.seen) g gs h) ∙ sights_passed gs ts (All-tail (λ (g : MemberSight). IsFileOrGone g.seen) g gs h)

pub saw_dir : (x : Path) (ts more : List Entry) → Sees x IsDir ts → wrong (ts ++ more) ≡ past_list more
saw_dir x ts more s = ap (λ vs. wrong (vs ++ more)) s.look ∙ dir_passed x s.seen more s.is
