-- A directory that was seen stands, so no later look misses it.
use Rattle.std.proofs.Common.{◌≡◌, inl, List, [], ◌∷◌, ◌++◌, Option, Some, None, reverse, refl, sym, ap, ◌∙◌, subst}
use Rattle.std.proofs.lemmas.List.{reverse-append}
use Rattle.lr_rules.specs.declared.path.Path.{Path}
use Rattle.lr_host.specs.declared.entry.Entry.{Entry}
use Rattle.lr_host.specs.declared.entry.Entry.TheVariants as entry
use Rattle.lr_host.specs.declared.thing.Kind.TheVariants as kind
use Rattle.lr_host.specs.declared.thing.Seen.{Seen}
use Rattle.lr_host.specs.Lists.{IsIn}
use Rattle.lr_host.specs.Looks.{Sees, IsDir}
use Rattle.lr_host.specs.Quiet.{ChangeNothing}
use Rattle.lr_host.specs.Told.{Made}
use Rattle.lr_host.specs.World.{Past, world, names}
use Rattle.lr_host.proofs.Lists.{in_reverse}
use Rattle.lr_host.proofs.Looked.{seen_dir, seen_none, nothing_no_dir}
use Rattle.lr_host.proofs.Made.{Cut, cut}
use Rattle.lr_host.proofs.More.{directory_more}
use Rattle.lr_host.proofs.Quiet.{IsAny, Moment, moment, quiet_more, quiet_still, sees_quiet, since_any, still_reverse}

-- the moment between two parts of what a call left
pub cut_at : (p q : Past) (ts front back : List Entry) → ts ≡ front ++ back → Made p (reverse ts) q → Cut p q (reverse back) (reverse front)
cut_at p q ts front back e m = cut p q (reverse ts) (reverse back) (reverse front) (ap reverse e ∙ reverse-append front back) m

-- one of these entries, of which none changes anything
moment_of : (p q : Past) (ts : List Entry) (e : Entry) → Made p (reverse ts) q → ChangeNothing ts → IsIn e ts → Moment IsAny p q e
moment_of p q ts e m still i = moment IsAny p q e (reverse ts) (since_any p q (reverse ts) m) m (still_reverse ts still) (in_reverse e ts i)

-- the one look that saw a directory
saw_dir : (x : Path) (ts : List Entry) → Sees x IsDir ts → (seen : Seen) × (seen.kind ≡ kind.Dir) × IsIn (entry.Look x (Some seen)) ts
saw_dir x ts s = go s.seen s.is s.look
  where
    go : (o : Option Seen) → IsDir o → ts ≡ entry.Look x o ∷ [] → (seen : Seen) × (seen.kind ≡ kind.Dir) × IsIn (entry.Look x (Some seen)) ts
    go None d e = absurd d
    go (Some seen) d e = (seen, d, subst (IsIn (entry.Look x (Some seen))) (sym e) (inl refl))

-- a look that saw the directory, then entries that change nothing, and then any others
pub still_there : (p q : Past) (x : Path) (ts front still back : List Entry) → ts ≡ front ++ (still ++ back) → Made p (reverse ts) q → Sees x IsDir front → ChangeNothing still → IsIn (entry.Look x None) still → ⊥
still_there p q x ts front still back e m saw none i =
    nothing_no_dir (names (world u.at) x) (seen_none (world u.at) (names (world u.at) x) u.fits)
    (directory_more (names (world c.mid)) (names (world u.at)) x (quiet_more IsAny c.mid u.at u.since)
    (directory_more (names (world t.at)) (names (world c.mid)) x (quiet_more IsAny t.at c.mid t.until) (seen_dir (world t.at) (names (world t.at) x) s.0 t.fits s.1)))
  where
    c : Cut p q (reverse (still ++ back)) (reverse front)
    c = cut_at p q ts front (still ++ back) e m

    d : Cut c.mid q (reverse back) (reverse still)
    d = cut_at c.mid q (still ++ back) still back refl c.second

    s : (seen : Seen) × (seen.kind ≡ kind.Dir) × IsIn (entry.Look x (Some seen)) front
    s = saw_dir x front saw

    t : Moment IsAny p c.mid (entry.Look x (Some s.0))
    t = moment_of p c.mid front (entry.Look x (Some s.0)) c.first (quiet_still front (sees_quiet x front saw)) s.2

    u : Moment IsAny c.mid d.mid (entry.Look x None)
    u = moment_of c.mid d.mid still (entry.Look x None) d.first none i
