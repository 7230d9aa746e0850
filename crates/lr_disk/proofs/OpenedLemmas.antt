-- The state in memory of an opening.
use Rattle.std.proofs.Common.{◌≡◌, ℕ, zero, suc, ◌<◌, ◌≤◌, Bool, true, false, cond, ◌||◌, List, [], ◌∷◌, ◌++◌, length, map, All, Some, None, refl, sym, ap, subst, ◌∙◌, arith, bytes_eq, nat_eq}
use Rattle.std.specs.Prelude.{pos, vec_capacity}
use Rattle.std.proofs.lemmas.List.{length-map}
use Rattle.lr_rules.specs.declared.path.Path.{Path}
use Rattle.lr_host.specs.declared.thing.Thing.{Thing}
use Rattle.lr_host.specs.declared.thing.Thing.TheVariants as thing
use Rattle.lr_host.specs.declared.journal.Opening.{Opening}
use Rattle.lr_host.specs.declared.journal.OpenFile.{OpenFile}
use Rattle.lr_host.specs.Lists.{AreDistinct, IsNotIn}
use Rattle.lr_host.specs.Opening.{IsValid, opening_paths}
use Rattle.lr_host.specs.World.{opened, opening_names, opening_file, opening_hold, named_at_first, in_list}
use Rattle.lr_disk.specs.declared.state.State.{State}
use Rattle.lr_disk.specs.declared.file.MemFile.{MemFile}
use Rattle.lr_disk.specs.Pairs.{keys}
use Rattle.lr_disk.specs.declared.tree.Tree.{Tree}
use Rattle.lr_disk.specs.Names.{named_in, opening_pairs, has_path}
use Rattle.lr_disk.specs.Pending.{pending_of, AreKnown}
use Rattle.lr_disk.specs.Tree.{IsTree, IsTreeOpened}
use Rattle.lr_disk.specs.State.{ShowsWorld, as_open, file_with, hold_in}
use Rattle.lr_disk.proofs.PairLemmas.{bytes_tell}

-- the paths of an opening, in their order
keys_paths : (t : Thing) (ps : List Path) → keys (map (λ p. (p, t)) ps) ≡ ps
keys_paths t [] = refl
keys_paths t (p ∷ ps) = ap (λ l. p ∷ l) (keys_paths t ps)

keys_both : (t : Thing) (ps : List Path) (ns : List (Path × Thing)) (qs : List Path) → keys ns ≡ qs → keys (map (λ p. (p, t)) ps ++ ns) ≡ ps ++ qs
keys_both t [] ns qs e = e
keys_both t (p ∷ ps) ns qs e = ap (λ l. p ∷ l) (keys_both t ps ns qs e)

keys_files : (fs : List (Path × ℕ)) (ns : List (Path × Thing)) (qs : List Path) → keys ns ≡ qs → keys (map (λ n. (n.0, thing.File n.1)) fs ++ ns) ≡ map (λ n. n.0) fs ++ qs
keys_files [] ns qs e = e
keys_files (f ∷ fs) ns qs e = ap (λ l. f.0 ∷ l) (keys_files fs ns qs e)

pub keys_names : (o : Opening) → keys (opening_pairs o) ≡ opening_paths o
keys_names o = keys_files o.names _ (o.dirs ++ o.others) (keys_both thing.Directory o.dirs _ o.others (keys_paths thing.Other o.others))

-- what the paths name
names_last : (t : Thing) (ps : List Path) (x : Path) → named_in (map (λ p. (p, t)) ps) x ≡ cond (in_list ps x) t thing.Nothing
names_last t [] x = refl
names_last t (p ∷ ps) x = go (bytes_eq p x) (names_last t ps x)
  where
    go : (b : Bool) → named_in (map (λ p. (p, t)) ps) x ≡ cond (in_list ps x) t thing.Nothing → cond b t (named_in (map (λ p. (p, t)) ps) x) ≡ cond (b || in_list ps x) t thing.Nothing
    go true h = refl
    go false h = h

names_first : (t r : Thing) (ps : List Path) (ns : List (Path × Thing)) (x : Path) → named_in ns x ≡ r → named_in (map (λ p. (p, t)) ps ++ ns) x ≡ cond (in_list ps x) t r
names_first t r [] ns x e = e
names_first t r (p ∷ ps) ns x e = go (bytes_eq p x) (names_first t r ps ns x e)
  where
    go : (b : Bool) → named_in (map (λ p. (p, t)) ps ++ ns) x ≡ cond (in_list ps x) t r → cond b t (named_in (map (λ p. (p, t)) ps ++ ns) x) ≡ cond (b || in_list ps x) t r
    go true h = refl
    go false h = h

lacks : (x : Path) (ps : List Path) → IsNotIn x ps → in_list ps x ≡ false
lacks x [] h = refl
lacks x (p ∷ ps) h = go (bytes_eq p x) refl (lacks x ps h.1)
  where
    go : (b : Bool) → bytes_eq p x ≡ b → in_list ps x ≡ false → (b || in_list ps x) ≡ false
    go true e l = absurd (h.0 (sym ((bytes_tell p x).0 e)))
    go false e l = l

later : (x : Path) (ps qs : List Path) → IsNotIn x (ps ++ qs) → IsNotIn x qs
later x [] qs h = h
later x (p ∷ ps) qs h = later x ps qs h.1

earlier : (x : Path) (ps qs : List Path) → IsNotIn x (ps ++ qs) → IsNotIn x ps
earlier x [] qs h = tt
earlier x (p ∷ ps) qs h = (h.0, earlier x ps qs h.1)

named : (fs : List (Path × ℕ)) (ds es : List Path) (x : Path) → AreDistinct (map (λ n. n.0) fs ++ (ds ++ es))
    → named_in (map (λ n. (n.0, thing.File n.1)) fs ++ (map (λ p. (p, thing.Directory)) ds ++ map (λ p. (p, thing.Other)) es)) x ≡ cond (in_list ds x) thing.Directory (cond (in_list es x) thing.Other (named_at_first fs x))
named [] ds es x once = names_first thing.Directory (cond (in_list es x) thing.Other thing.Nothing) ds _ x (names_last thing.Other es x)
named (f ∷ fs) ds es x once = go (bytes_eq f.0 x) refl (named fs ds es x once.1)
  where
    both : (a b : Bool) (n : Thing) → a ≡ false → b ≡ false → n ≡ cond a thing.Directory (cond b thing.Other n)
    both true b n h i = absurd (cc)
    both false true n h i = absurd (cc)
    both false false n h i = refl

    go : (b : Bool) → bytes_eq f.0 x ≡ b → named_in (map (λ n. (n.0, thing.File n.1)) fs ++ (map (λ p. (p, thing.Directory)) ds ++ map (λ p. (p, thing.Other)) es)) x ≡ cond (in_list ds x) thing.Directory (cond (in_list es x) thing.Other (named_at_first fs x))
        → cond b (thing.File f.1) (named_in (map (λ n. (n.0, thing.File n.1)) fs ++ (map (λ p. (p, thing.Directory)) ds ++ map (λ p. (p, thing.Other)) es)) x) ≡ cond (in_list ds x) thing.Directory (cond (in_list es x) thing.Other (cond b (thing.File f.1) (named_at_first fs x)))
    go true e h =
        let new : IsNotIn x (ds ++ es) = later x (map (λ n. n.0) fs) (ds ++ es) (subst (λ y. IsNotIn y (map (λ n. n.0) fs ++ (ds ++ es))) ((bytes_tell f.0 x).0 e) once.0) in
        both (in_list ds x) (in_list es x) (thing.File f.1) (lacks x ds (earlier x ds es new)) (lacks x es (later x ds es new))
    go false e h = h

-- files and holds
files : (fs : List MemFile) (os : List OpenFile) → map as_open fs ≡ os → (id : ℕ) → file_with fs id ≡ opening_file os id
files fs os e id = subst (λ l. file_with fs id ≡ opening_file l id) e (go fs id)
  where
    go : (fs : List MemFile) (id : ℕ) → file_with fs id ≡ opening_file (map as_open fs) id
    go [] zero = refl
    go [] (suc id) = refl
    go (f ∷ fs) zero = refl
    go (f ∷ fs) (suc id) = go fs id

held : (hs : List (ℕ × ℕ)) (v : ℕ) → hold_in (map (λ h. (h.0, Some h.1)) hs) v ≡ opening_hold hs v
held [] v = refl
held (h ∷ hs) v = ap (λ r. cond (nat_eq h.0 v) (Some h.1) r) (held hs v)

below : (fs : List (Path × ℕ)) (count : ℕ) (x : Path) (g : ℕ) → All (λ n. n.1 < count) fs → named_at_first fs x ≡ thing.File g → g < count
below [] count x g known e = absurd (cc)
below (f ∷ fs) count x g known e = go (bytes_eq f.0 x) e (λ r. below fs count x g (λ k d lt. known (suc k) d (omega arith)) r)
  where
    go : (b : Bool) → cond b (thing.File f.1) (named_at_first fs x) ≡ thing.File g → (named_at_first fs x ≡ thing.File g → g < count) → g < count
    go true e later = let same : f.1 ≡ g = cc in subst (λ n. n < count) same (known 0 f (omega arith))
    go false e later = later e

below_opened : (o : Opening) → IsValid o → (x : Path) (g : ℕ) → opening_names o x ≡ thing.File g → g < length o.files
below_opened o v x g e = go (in_list o.dirs x) (in_list o.others x) e
  where
    go : (a b : Bool) → cond a thing.Directory (cond b thing.Other (named_at_first o.names x)) ≡ thing.File g → g < length o.files
    go true b e = absurd (cc)
    go false true e = absurd (cc)
    go false false e = below o.names (length o.files) x g v.known e

unmade : (os : List OpenFile) (id : ℕ) → length os ≤ id → (opening_file os id).mode ≡ None
unmade [] id le = refl
unmade (f ∷ os) zero le = absurd (omega arith)
unmade (f ∷ os) (suc id) le = unmade os id (omega arith)

-- the names of an opening
pub tree_opened : (o : Opening) (t : Tree) → IsTreeOpened o t → IsValid o → IsTree t
tree_opened o t i v = record {
  once = subst AreDistinct (sym (ap keys i.named ∙ keys_names o)) v.once;
  durable_once = subst AreDistinct (sym (ap keys i.durable ∙ keys_names o)) v.once;
  within = λ x h. ap (λ ns. has_path ns x) (i.named ∙ sym i.durable) ∙ h;
  known = subst (λ cs. AreKnown t.durable.items (pending_of cs)) (sym i.changes) tt;
  no_bound = i.bound;
  no_rest = i.rest;
  bound_room = none (vec_capacity t.bound) i.changes;
  rest_room = none (vec_capacity t.rest) i.changes;
}
  where
    none : (n : ℕ) → t.changes.items ≡ [] → length t.changes.items ≤ n
    none n e = let l : length t.changes.items ≡ 0 = ap length e in omega arith

pub shows_opened : (s : State) (o : Opening) → IsTreeOpened o s.tree → map as_open s.files.items ≡ o.files → s.holds.items ≡ map (λ h. (h.0, Some h.1)) o.holds → s.moment ≡ pos 0 → IsValid o → ShowsWorld s (opened o)
shows_opened s o i same_files same_holds now v = record {
  tree = tree_opened o s.tree i v;
  named = λ x. ap (λ ns. named_in ns x) i.named ∙ named o.names o.dirs o.others x v.once;
  durable = λ x. ap (λ ns. named_in ns x) i.durable ∙ named o.names o.dirs o.others x v.once;
  changes = ap pending_of i.changes;
  drawn = sym (length-map s.files.items as_open) ∙ ap length same_files;
  files = λ id lt. files s.files.items o.files same_files id;
  holds = λ u. ap (λ hs. hold_in hs u) same_holds ∙ held o.holds u;
  below = below_opened o v;
  below_durable = below_opened o v;
  below_pending = tt;
  unmade = unmade o.files;
  now = now;
}
