-- A dated family's log and members stand as its rotation asks for.
use Rattle.std.proofs.Common.{◌≡◌, ◌≢◌, ◌⊎◌, inl, inr, ⊎_elim, ℕ, ℤ, ◌<◌, Bool, true, false, cond, refl, sym, ◌∙◌, subst, List, [], ◌∷◌, map, Option, Some, None}
use Rattle.std.specs.Prelude.{All, int_lt, IsSome}
use Rattle.std.proofs.lemmas.List.Elements.{All-head, All-tail}
use Rattle.lr_rules.specs.declared.path.Path.{Path}
use Rattle.lr_rules.specs.declared.rule.Format.{Format}
use Rattle.lr_rules.specs.declared.rule.Naming.{Naming}
use Rattle.lr_rules.specs.Dated.{IsDatedAt}
use Rattle.lr_rules.specs.Limits.{is_format, or_none}
use Rattle.lr_host.specs.declared.thing.Thing.TheVariants as thing
use Rattle.lr_host.specs.Fits.{IsFileAt}
use Rattle.lr_host.specs.Lists.{IsIn}
use Rattle.lr_host.specs.Sets.{LogSet, Dated, order, order_of}
use Rattle.lr_host.specs.World.{Names, put, Moves, changed}
use Rattle.lr_host.proofs.Looked.{nothing_no_file}
use Rattle.lr_host.proofs.Names.{put_here}
use Rattle.lr_family.specs.declared.stand.Member.{Member}
use Rattle.lr_family.specs.Places.{IsPlaceOf, AreNamed}
use Rattle.lr_family.proofs.Placed.{some_dated}
use Rattle.lr_laws.specs.Forward.{IsNextSerial}
use Rattle.lr_chain.specs.DatedRotation.{Ranked, key_of}
use Rattle.lr_chain.specs.DatedTurning.{AreFiles, IsOutside, StandSo}
use Rattle.lr_chain.proofs.DatedWhole.{moved_other}
use Rattle.lr_chain.specs.Serials.{IsNext}
use Rattle.lr_chain.specs.DatedReady.{ranked, renamed, with_one, all_of}
use Rattle.lr_chain.proofs.Newest.{one_in, IsStamp}
use Rattle.lr_chain.proofs.DatedOrder.{all_fall, all_dated}
use Rattle.lr_laws_family.specs.Members.{IsFamily, NoMemberHas, AreThere}
use Rattle.lr_laws_family.proofs.Picking.{IsThere, has_or_none, there_at}
use Rattle.lr_laws_rotations.proofs.Stamped.{day_of, lower, next_free, stamped}

order_dated : (d : Option Format) → IsSome d → order_of d ≡ Dated
order_dated None h = absurd (cc h)
order_dated (Some f) h = refl

pub is_dated : (s : LogSet) (format : Format) → s.naming.dated ≡ Some format → order s ≡ Dated
is_dated s format some = order_dated s.naming.dated (subst IsSome (sym some) refl)

-- ---- once the log has its new name

files_with : (n : Names) (one : Ranked) (ms : List Ranked) → IsFileAt n one.path → AreFiles n ms → AreFiles n (with_one one ms)
files_with n one [] f fs = (f, tt)
files_with n one (m ∷ ms) f fs = go (int_lt (key_of one) (key_of m)) (files_with n one ms f fs.1)
  where
    go : (b : Bool) → AreFiles n (with_one one ms) → AreFiles n (cond b (m ∷ with_one one ms) (one ∷ m ∷ ms))
    go true r = (fs.0, r)
    go false r = (f, fs)

-- a member's file and the log's under its new name
pub moved_files : (log : Path) (n : Naming) (m : Names) (members : List Member) (target : Path) (maxage : Option ℕ) (now t : ℤ) (serial : ℕ) → IsFamily log n → IsSome n.dated → IsFileAt m log → AreNamed n members → NoMemberHas members target → All (IsThere m) members
    → AreFiles (changed (Moves log target) m) (all_of maxage now t serial target members)
moved_files log n m members target maxage now t serial family some file named none files =
    files_with (changed (Moves log target) m) (renamed t serial target) (map (ranked maxage now) members) (file.0, put_here (put m log thing.Nothing) target target (m log) refl ∙ file.1) (all members named none files)
  where
    all : (ms : List Member) → AreNamed n ms → NoMemberHas ms target → All (IsThere m) ms → AreFiles (changed (Moves log target) m) (map (ranked maxage now) ms)
    all [] d none files = tt
    all (y ∷ ys) d none files =
        let day = day_of n (y ∷ ys) y some d (inl refl) in
        let f = All-head (IsThere m) y ys files in (
          (f.0, moved_other m log target y.path (λ same. family.apart (inr (day.0, day.1, subst (IsDatedAt n day.0 day.1) same day.3))) (λ same. none.0 (sym same)) ∙ f.1),
          all ys (All-tail (λ (m : Member). IsPlaceOf n m.place m.path) y ys d) none.1 (All-tail (IsThere m) y ys files),
        )

-- a path that none of all has is another than the one, and none of the others has it
pub outside_with : (x : Path) (one : Ranked) (ms : List Ranked) → IsOutside x (with_one one ms) → (x ≢ one.path) × IsOutside x ms
outside_with x one [] o = (o.0, tt)
outside_with x one (m ∷ ms) o = go (int_lt (key_of one) (key_of m)) (outside_with x one ms) o
  where
    go : (b : Bool) → (IsOutside x (with_one one ms) → (x ≢ one.path) × IsOutside x ms) → IsOutside x (cond b (m ∷ with_one one ms) (one ∷ m ∷ ms)) → (x ≢ one.path) × IsOutside x (m ∷ ms)
    go true further o = let r = further o.1 in (r.0, (o.0, r.1))
    go false further o = o

pub outside_members : (maxage : Option ℕ) (now : ℤ) (x : Path) (ms : List Member) → IsOutside x (map (ranked maxage now) ms) → NoMemberHas ms x
outside_members maxage now x [] o = tt
outside_members maxage now x (m ∷ ms) o = (o.0, outside_members maxage now x ms o.1)

pub stand_so : (log : Path) (n : Naming) (m : Names) (members : List Member) (target : Path) (maxage : Option ℕ) (now t : ℤ) (serial : ℕ) → IsFamily log n → IsFileAt m log → AreThere n m members → IsNext members t serial → IsDatedAt n t serial target
    → StandSo n log target (all_of maxage now t serial target members) m
stand_so log n m members target maxage now t serial family file here next is = record {
  log_file = file;
  free = here.others target (inr (t, serial, is)) none;
  falling = all_fall n maxage now t serial target members here.newest_first next here.named is;
  named = all_dated n maxage now t serial target members here.named is;
  files = moved_files log n m members target maxage now t serial family (some_dated n t serial target is) file here.named none here.files;
  others = λ x u k at out. let o = outside_with x (renamed t serial target) (map (ranked maxage now) members) out in
      moved_other m log target x (λ same. family.apart (inr (u, k, subst (IsDatedAt n u k) same at))) o.0 ∙ here.others x (inr (u, k, at)) (outside_members maxage now x members o.1);
}
  where
    none : NoMemberHas members target
    none = next_free n family.format members here.named t serial next target is

-- ---- the serial number that comes next

pub next_serial : (n : Naming) (m : Names) (members : List Member) (t : ℤ) (serial : ℕ) → or_none is_format n.dated ≡ true → AreThere n m members → IsNext members t serial → IsNextSerial n m t serial
next_serial n m members t serial good here next = record {
  above = λ y k is f. above y k is f (has_or_none y members);
  least = ⊎_elim (λ none. inl none) (λ h. let r = stamped n good members here.named t serial next h.0 (one_in (IsStamp t h.0) members h.2) in inr (r.0.path, h.0, h.1, r.2, there_at m members r.0 here.files r.1)) next.least;
}
  where
    above : (y : Path) (k : ℕ) → IsDatedAt n t k y → IsFileAt m y → ((v : Member) × IsIn v members × (v.path ≡ y)) ⊎ NoMemberHas members y → k < serial
    above y k is f (inl h) = lower n good members here.named t serial next h.0 k y h.1 h.2 is
    above y k is f (inr none) = absurd (nothing_no_file (m y) f.0 (here.others y (inr (t, k, is)) none) f.1)
