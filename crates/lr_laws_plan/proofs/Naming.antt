-- What a path names that the tool gives no name, and that no writer is attached to.
use Rattle.std.proofs.Common.{◌≡◌, ◌≢◌, ◌⊎◌, inl, inr, ⊎_elim, Bool, true, false, cond, bytes_eq, List, [], ◌∷◌, ◌++◌, refl, sym, ◌∙◌, ap, subst}
use Rattle.std.proofs.lemmas.List.{append_cancel_right}
use Rattle.lr_rules.specs.declared.path.Path.{Path}
use Rattle.lr_host.specs.declared.entry.Entry.{Entry}
use Rattle.lr_host.specs.declared.entry.Entry.TheVariants.{Attach, Feed, Flush, Detach, Cut, Renames, Makes, Unlinks, MakesDir, SyncsDir}
use Rattle.lr_host.specs.declared.thing.Thing.TheVariants as thing
use Rattle.lr_host.specs.Lists.{IsIn}
use Rattle.lr_host.specs.Quiet.{AttachedOnlySince}
use Rattle.lr_host.specs.Told.{Each, IsTools, IsWriters, Made, at_first, by_writer, by_tool}
use Rattle.lr_host.specs.World.{Past, Opens, ◌▸◌, world, Names, names}
use Rattle.lr_host.proofs.Names.{put_here, put_other}
use Rattle.lr_host.proofs.Places.{synced_names}
use Rattle.lr_host.proofs.Quiet.{before_last, wrote_same}

-- ---- the tool's entries between two pasts are one list

-- with the entry, where it is the tool's
abbrev with_tools : Entry → List Entry → List Entry
with_tools (Attach writer x at) ts = ts
with_tools (Feed writer bytes at) ts = ts
with_tools (Flush writer) ts = ts
with_tools (Detach writer) ts = ts
with_tools (Cut kept lengths) ts = ts
with_tools e ts = e ∷ ts

-- all of them, the newest first
abbrev tools_in : Past → List Entry
tools_in (Opens o) = []
tools_in (p ▸ e) = with_tools e (tools_in p)

tools_less : (e : Entry) (ts : List Entry) → IsWriters e → with_tools e ts ≡ ts
tools_less (Attach writer x at) ts i = refl
tools_less (Feed writer bytes at) ts i = refl
tools_less (Flush writer) ts i = refl
tools_less (Detach writer) ts i = refl
tools_less _ ts i = absurd i

tools_more : (e : Entry) (ts : List Entry) → IsTools e → with_tools e ts ≡ e ∷ ts
tools_more (Attach writer x at) ts i = absurd i
tools_more (Feed writer bytes at) ts i = absurd i
tools_more (Flush writer) ts i = absurd i
tools_more (Detach writer) ts i = absurd i
tools_more (Cut kept lengths) ts i = absurd i
tools_more _ ts i = refl

made_all : (p q : Past) (es : List Entry) → Made p es q → tools_in q ≡ es ++ tools_in p
made_all p _ _ at_first = refl
made_all p _ es (by_writer {q = q} {e = e} m i f) = tools_less e (tools_in q) i ∙ made_all p q es m
made_all p _ _ (by_tool {es = es} {q = q} {e = e} m i f) = tools_more e (tools_in q) i ∙ ap (λ (ts : List Entry). e ∷ ts) (made_all p q es m)

pub made_same : (p q : Past) (es fs : List Entry) → Made p es q → Made p fs q → es ≡ fs
made_same p q es fs m n = append_cancel_right es fs (tools_in p) (sym (made_all p q es m) ∙ made_all p q fs n)

-- ---- one entry

-- the entry gives the path no name
abbrev pub Avoids : Path → Entry → Type 0
Avoids x (Renames from to) = to ≡ x → ⊥
Avoids x (Makes y mode) = y ≡ x → ⊥
Avoids x (MakesDir y mode) = y ≡ x → ⊥
Avoids x _ = Unit {0}

-- one name is taken away: it was this one, or another
dropped : (n : Names) (y x : Path) → (cond (bytes_eq y x) thing.Nothing (n x) ≡ thing.Nothing) ⊎ (cond (bytes_eq y x) thing.Nothing (n x) ≡ n x)
dropped n y x = go (bytes_eq y x)
  where
    go : (b : Bool) → (cond b thing.Nothing (n x) ≡ thing.Nothing) ⊎ (cond b thing.Nothing (n x) ≡ n x)
    go true = inl refl
    go false = inr refl

-- so the path names nothing behind it, or what it named
pub avoided : (p : Past) (e : Entry) (x : Path) → IsTools e → Avoids x e → (names (world (p ▸ e)) x ≡ thing.Nothing) ⊎ (names (world (p ▸ e)) x ≡ names (world p) x)
avoided p (Renames from to) x i a = ⊎_elim (λ none. inl (moved ∙ none)) (λ same. inr (moved ∙ same)) (dropped (names (world p)) from x)
  where
    moved : names (world (p ▸ Renames from to)) x ≡ cond (bytes_eq from x) thing.Nothing (names (world p) x)
    moved = put_other (λ y. cond (bytes_eq from y) thing.Nothing (names (world p) y)) to x (names (world p) from) (λ same. a (sym same))
avoided p (Makes y mode) x i a = inr (put_other (names (world p)) y x (thing.File (world p).drawn) (λ same. a (sym same)))
avoided p (MakesDir y mode) x i a = inr (put_other (names (world p)) y x thing.Directory (λ same. a (sym same)))
avoided p (Unlinks y) x i a = dropped (names (world p)) y x
avoided p (SyncsDir y) x i a = inr (synced_names (world p) y x)
avoided p (Attach writer y at) x i a = absurd i
avoided p (Cut kept lengths) x i a = absurd i
avoided p _ x i a = inr refl

-- ---- all of them

-- no writer was attached to the path
abbrev pub Spared : Path → Past → Past → Type 0
Spared x p q = AttachedOnlySince (λ y. y ≢ x) p q

-- it names nothing where it named nothing
pub still_nothing : (x : Path) (p q : Past) (es : List Entry) → Made p es q → Spared x p q → Each (Avoids x) es → names (world p) x ≡ thing.Nothing → names (world q) x ≡ thing.Nothing
still_nothing x p _ _ at_first s a none = none
still_nothing x p _ es (by_writer {q = q} {e = e} m i f) s a none = let b = before_last (λ y. y ≢ x) p q e es m s in wrote_same (λ y. y ≢ x) q e x i b.1 (λ no. no refl) ∙ still_nothing x p q es m b.0 a none
still_nothing x p _ _ (by_tool {es = es} {q = q} {e = e} m i f) s a none = let b = before_last (λ y. y ≢ x) p q e es m s in
    ⊎_elim (λ gone. gone) (λ same. same ∙ still_nothing x p q es m b.0 a.1 none) (avoided q e x i a.0)

-- it names nothing where it was unlinked
pub still_gone : (x : Path) (p q : Past) (es : List Entry) → Made p es q → Spared x p q → Each (Avoids x) es → IsIn (Unlinks x) es → names (world q) x ≡ thing.Nothing
still_gone x p _ _ at_first s a gone = absurd gone
still_gone x p _ es (by_writer {q = q} {e = e} m i f) s a gone = let b = before_last (λ y. y ≢ x) p q e es m s in wrote_same (λ y. y ≢ x) q e x i b.1 (λ no. no refl) ∙ still_gone x p q es m b.0 a gone
still_gone x p _ _ (by_tool {es = es} {q = q} {e = e} m i f) s a gone = let b = before_last (λ y. y ≢ x) p q e es m s in
    ⊎_elim (λ (last : e ≡ Unlinks x). subst (λ (d : Entry). names (world (q ▸ d)) x ≡ thing.Nothing) (sym last) (put_here (names (world q)) x x thing.Nothing refl))
    (λ older. ⊎_elim (λ gone. gone) (λ same. same ∙ still_gone x p q es m b.0 a.1 older) (avoided q e x i a.0)) gone
