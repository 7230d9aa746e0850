-- What a call found stood as it began, or came meanwhile.
use Rattle.std.proofs.Common.{◌≡◌, ◌⊎◌, inl, inr, ⊎_elim, ℕ, List, reverse, Some, None, Ok, refl, sym, ◌∙◌, subst}
use Rattle.lr_rules.specs.declared.path.Path.{Path}
use Rattle.lr_host.specs.declared.entry.Entry.{Entry}
use Rattle.lr_host.specs.declared.entry.Entry.TheVariants as entry
use Rattle.lr_host.specs.declared.thing.Kind.TheVariants as kind
use Rattle.lr_host.specs.declared.thing.Seen.{Seen}
use Rattle.lr_host.specs.declared.thing.Thing.{Thing}
use Rattle.lr_host.specs.declared.thing.Thing.TheVariants as thing
use Rattle.lr_host.specs.Fits.{IsFileAt, IsDirectoryAt, SeesThing}
use Rattle.lr_host.specs.Lists.{IsIn}
use Rattle.lr_host.specs.Quiet.{Quiet, here, wrote, looked}
use Rattle.lr_host.specs.Safe.{IsPrefix, whole, shorter}
use Rattle.lr_host.specs.Told.{Made, IsWriters}
use Rattle.lr_host.specs.World.{Past, ◌▸◌, World, world, names}
use Rattle.lr_host.proofs.Lists.{from_reverse}
use Rattle.lr_host.proofs.Looked.{nothing_no_file, seen_file, seen_dir}
use Rattle.lr_host.proofs.More.{attach_names, dir_before}
use Rattle.lr_host.proofs.Quiet.{IsAny, Moment, moment, quiet_more, quiet_still, since_any, still_in_order, looked_names}
use Rattle.lr_host.proofs.Looking.{looks_quiet}
use Rattle.lr_glob.specs.declared.found.Found.{Found}
use Rattle.lr_glob.specs.Words.{Comes}
use Rattle.lr_glob.proofs.OnlyLooks.{comes_looks}
use Rattle.lr_glob.proofs.Seeking.{found_were_seen}
use Rattle.lr_laws.proofs.Lists.{prefix_on}
use Rattle.lr_laws_looks.specs.Finds.{IsAttachedBetween, StoodOrCame}

-- ---- prefixes

pub quiet_prefix : (p q : Past) → Quiet IsAny p q → IsPrefix p q
quiet_prefix p _ here = whole
quiet_prefix p _ (wrote {q = q} w i f only) = shorter (quiet_prefix p q w)
quiet_prefix p _ (looked {q = q} w i f h) = shorter (quiet_prefix p q w)

later : (x : Path) (p q r : Past) → IsAttachedBetween x p q → IsPrefix q r → IsAttachedBetween x p r
later x p q r a b = record { at = a.at; writer = a.writer; time = a.time; behind = a.behind; before = prefix_on (a.at ▸ entry.Attach a.writer x a.time) q r a.before b }

-- ---- what a path names over a quiet stretch

wrote_or_same : (x : Path) (p q : Past) (e : Entry) → Quiet IsAny p q → IsWriters e → (names (world (q ▸ e)) x ≡ names (world q) x) ⊎ IsAttachedBetween x p (q ▸ e)
wrote_or_same x p q (entry.Attach v y at) s i = ⊎_elim (λ same. inl same) (λ new. inr (attached new.0)) (attach_names (world q) v y x at)
  where
    attached : y ≡ x → IsAttachedBetween x p (q ▸ entry.Attach v y at)
    attached e = record { at = q; writer = v; time = at; behind = quiet_prefix p q s; before = subst (λ z. IsPrefix (q ▸ entry.Attach v z at) (q ▸ entry.Attach v y at)) e whole }
wrote_or_same x p q (entry.Feed v bytes at) s i = inl refl
wrote_or_same x p q (entry.Flush v) s i = inl refl
wrote_or_same x p q (entry.Detach v) s i = inl refl
wrote_or_same x p q _ s i = absurd i

-- the same, or a writer was attached to it
same_or_came : (x : Path) (p q : Past) → Quiet IsAny p q → (names (world q) x ≡ names (world p) x) ⊎ IsAttachedBetween x p q
same_or_came x p _ here = inl refl
same_or_came x p _ (wrote {q = q} {e = e} w i f only) = ⊎_elim
    (λ same. ⊎_elim (λ now. inl (now ∙ same)) (λ new. inr new) (wrote_or_same x p q e w i))
    (λ came. inr (later x p q (q ▸ e) came (shorter whole)))
    (same_or_came x p q w)
same_or_came x p _ (looked {q = q} {e = e} w i f h) = ⊎_elim
    (λ same. inl (looked_names q e x i h ∙ same))
    (λ came. inr (later x p q (q ▸ e) came (shorter whole)))
    (same_or_came x p q w)

pub stood_or_came : (x : Path) (p q r : Past) → Quiet IsAny p q → IsPrefix q r → IsFileAt (names (world q)) x → StoodOrCame x p r
stood_or_came x p q r s on file = ⊎_elim
    (λ same. inl (file.0, sym same ∙ file.1))
    (λ new. inr (new.0, ⊎_elim (λ same. absurd (nothing_no_file (names (world q) x) file.0 (same ∙ new.0) file.1)) (λ came. later x p q r came on) (same_or_came x p q s)))
    (quiet_more IsAny p q s x)

seen_other : (w : World) (t : Thing) (seen : Seen) → SeesThing w t (Some seen) → seen.kind ≡ kind.Other → t ≡ thing.Other
seen_other w thing.Nothing seen s k = absurd (let none : Some seen ≡ None = s in cc)
seen_other w (thing.File g) seen s k = absurd (let e = sym s.0 ∙ k in cc)
seen_other w thing.Directory seen s k = absurd (let e = sym s ∙ k in cc)
seen_other w thing.Other seen s k = refl

other_before : (t u : Thing) → (u ≡ t) ⊎ ((t ≡ thing.Nothing) × ((g : ℕ) × (u ≡ thing.File g))) → u ≡ thing.Other → t ≡ thing.Other
other_before t u (inl same) e = sym same ∙ e
other_before t u (inr new) e = absurd (let f = sym new.1.1 ∙ e in cc)

-- ---- what was found

module _ (p q : Past) (es : List Entry) (word : List ℕ) (room : ℕ) (found : List Found) (m : Made p es q) (c : Comes word room (Ok found) (reverse es)) (f : Found) (i : IsIn f found) where
  seen_then : Moment IsAny p q (entry.Look f.path (Some f.seen))
  seen_then = moment IsAny p q (entry.Look f.path (Some f.seen)) es (since_any p q es m) m
      (still_in_order es (quiet_still (reverse es) (looks_quiet (reverse es) (comes_looks word room (Ok found) (reverse es) c))))
      (from_reverse (entry.Look f.path (Some f.seen)) es (found_were_seen word room found (reverse es) c f i))

  pub file_came : f.seen.kind ≡ kind.File → StoodOrCame f.path p q
  file_came k = stood_or_came f.path p seen_then.at q seen_then.since (quiet_prefix seen_then.at q seen_then.until) (seen_file (world seen_then.at) (names (world seen_then.at) f.path) f.seen seen_then.fits k)

  pub directory_stood : f.seen.kind ≡ kind.Dir → IsDirectoryAt (names (world p)) f.path
  directory_stood k = dir_before (names (world p)) (names (world seen_then.at)) f.path (quiet_more IsAny p seen_then.at seen_then.since) (seen_dir (world seen_then.at) (names (world seen_then.at) f.path) f.seen seen_then.fits k)

  pub other_stood : f.seen.kind ≡ kind.Other → names (world p) f.path ≡ thing.Other
  other_stood k = other_before (names (world p) f.path) (names (world seen_then.at) f.path) (quiet_more IsAny p seen_then.at seen_then.since f.path) (seen_other (world seen_then.at) (names (world seen_then.at) f.path) f.seen seen_then.fits k)
