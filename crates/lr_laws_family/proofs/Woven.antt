-- Where the steps of a rotation stand among others, those before and behind one of them are told apart: of one by rename, its rename.
use Rattle.std.proofs.Common.{◌≡◌, Bool, true, false, cond, refl, sym, ap, subst, List, [], ◌∷◌, ◌++◌}
use Rattle.std.specs.Prelude.{filter}
use Rattle.lr_rules.specs.declared.path.Path.{Path}
use Rattle.lr_rules.specs.declared.rule.Naming.{Naming}
use Rattle.lr_rules.proofs.Heads.{heads, tails}
use Rattle.lr_host.specs.declared.entry.Entry.{Entry}
use Rattle.lr_host.specs.declared.entry.Entry.TheVariants.{Renames}
use Rattle.lr_host.specs.Quiet.{is_disk_change, ChangeNothing}
use Rattle.lr_laws_family.specs.Made.{SawFree, Brings, IsBetween, RotatesAmong}
use Rattle.lr_laws_family.specs.Rotation.{Rotation, By, Rename, start_of, steps_before, steps_behind, rotation_steps}
use Rattle.lr_laws_family.specs.Shown.{SawFile, Shown}
use Rattle.lr_laws_family.specs.Weave.{Weave, none, own, other}
use Rattle.lr_laws_family.proofs.Splitting.{weave_nil}

-- The entries before one of the own, and those behind it.
pub record Parts (P : Entry → Type 0) (old : List Entry) (e : Entry) (new ts : List Entry) : Type 0 where
  pub early : List Entry
  pub late : List Entry
  pub joined : ts ≡ early ++ e ∷ late
  pub before : Weave P old (filter is_disk_change early)
  pub behind : Weave P new (filter is_disk_change late)

no_end : (old new : List Entry) (e : Entry) → old ++ e ∷ new ≡ [] → ⊥
no_end [] new e is = cc
no_end (o ∷ old) new e is = cc

pub parts : (P : Entry → Type 0) (ts old new : List Entry) (e : Entry) → Weave P (old ++ e ∷ new) (filter is_disk_change ts) → Parts P old e new ts
parts P [] old new e w = absurd (no_end old new e (weave_nil P (old ++ e ∷ new) [] w refl))
parts P (t ∷ ts) old new e w = go (λ old w. parts P ts old new e w) (is_disk_change t) refl w
  where
    one : (b : Bool) (us : List Entry) → is_disk_change t ≡ b → filter is_disk_change (t ∷ us) ≡ cond b (t ∷ filter is_disk_change us) (filter is_disk_change us)
    one b us h = ap (λ c. cond c (t ∷ filter is_disk_change us) (filter is_disk_change us)) h

    more : (old old' : List Entry) (r : Parts P old e new ts) → Weave P old' (filter is_disk_change (t ∷ r.early)) → Parts P old' e new (t ∷ ts)
    more old old' r w = record { early = t ∷ r.early; late = r.late; joined = ap (λ us. t ∷ us) r.joined; before = w; behind = r.behind }

    by_own : ((old : List Entry) → Weave P (old ++ e ∷ new) (filter is_disk_change ts) → Parts P old e new ts) → is_disk_change t ≡ true → (old os : List Entry) → t ∷ os ≡ old ++ e ∷ new → Weave P os (filter is_disk_change ts) → Parts P old e new (t ∷ ts)
    by_own further h [] os is v = record { early = []; late = ts; joined = ap (λ x. x ∷ ts) (heads t e os new is); before = none; behind = subst (λ xs. Weave P xs (filter is_disk_change ts)) (tails t e os new is) v }
    by_own further h (k ∷ old) os is v =
        let r = further old (subst (λ xs. Weave P xs (filter is_disk_change ts)) (tails t k os (old ++ e ∷ new) is) v) in
        more old (k ∷ old) r (subst (λ (x : Entry). Weave P (x ∷ old) (filter is_disk_change (t ∷ r.early))) (heads t k os (old ++ e ∷ new) is) (subst (Weave P (t ∷ old)) (sym (one true r.early h)) (own t r.before)))

    by_cases : ((old : List Entry) → Weave P (old ++ e ∷ new) (filter is_disk_change ts) → Parts P old e new ts) → is_disk_change t ≡ true → (steps : List Entry) → steps ≡ old ++ e ∷ new → Weave P steps (t ∷ filter is_disk_change ts) → Parts P old e new (t ∷ ts)
    by_cases further h _ is (own {steps = os} x v) = by_own further h old os is v
    by_cases further h steps is (other x out v) =
        let r = further old (subst (λ xs. Weave P xs (filter is_disk_change ts)) is v) in
        more old old r (subst (Weave P old) (sym (one true r.early h)) (other t out r.before))

    go : ((old : List Entry) → Weave P (old ++ e ∷ new) (filter is_disk_change ts) → Parts P old e new ts) → (b : Bool) → is_disk_change t ≡ b → Weave P (old ++ e ∷ new) (cond b (t ∷ filter is_disk_change ts) (filter is_disk_change ts)) → Parts P old e new (t ∷ ts)
    go further true h w = by_cases further h (old ++ e ∷ new) refl w
    go further false h w = let r = further old w in more old old r (subst (Weave P old) (sym (one false r.early h)) r.before)

module _ (paths : List Path) (n : Naming) (r : Rotation) (front back : List Entry) (is : r.by ≡ Rename) (still : ChangeNothing front) (source : SawFile r.source front) (shown : Shown n r.stood front) (woven : Weave (IsBetween paths r) (rotation_steps r) (filter is_disk_change back)) where
  split : Parts (IsBetween paths r) (steps_before r) (Renames r.source r.target) (steps_behind r) back
  split = parts (IsBetween paths r) back (steps_before r) (steps_behind r) (Renames r.source r.target) woven

  pub among : RotatesAmong paths n r (front ++ back)
  among = record {
    front = front;
    early = split.early;
    brought = Renames r.source r.target ∷ [];
    late = split.late;
    joined = ap (λ (us : List Entry). front ++ us) split.joined;
    still = still;
    start_seen = subst (λ (x : Path). SawFile x front) (sym (ap (start_of r) is)) source;
    free_seen = subst (λ (by : By). SawFree by r front) (sym is) tt;
    seen = shown;
    before_it = split.before;
    brings = subst (λ (by : By). Brings by paths r (Renames r.source r.target ∷ [])) (sym is) refl;
    behind_it = split.behind;
  }
