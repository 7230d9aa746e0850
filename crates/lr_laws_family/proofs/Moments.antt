-- The moment before an entry of the tool.
use Rattle.std.proofs.Common.{◌≡◌, ◌≢◌, refl, ap, ◌∙◌, subst, arith, List, ◌∷◌, ◌++◌}
use Rattle.lr_rules.specs.declared.path.Path.{Path}
use Rattle.lr_host.specs.declared.entry.Entry.{Entry}
use Rattle.lr_host.specs.declared.entry.Entry.TheVariants as entry
use Rattle.lr_host.specs.Fits.{Fits}
use Rattle.lr_host.specs.Safe.{IsPrefix, shorter}
use Rattle.lr_host.specs.Told.{Each, Made, at_first, by_writer, by_tool, IsWriters}
use Rattle.lr_host.specs.World.{Past, ◌▸◌, world}
use Rattle.lr_host.proofs.Quiet.{size}
use Rattle.lr_host.proofs.Each.{each_last}
use Rattle.lr_laws.proofs.Lists.{IsOnWay, on_way, prefix_size}
use Rattle.lr_laws_family.specs.Whole.{IsUnread}

-- the entry is the last of these
pub record IsLast (p u : Past) (e : Entry) (es : List Entry) : Type 0 where
  pub front : List Entry
  pub es_are : es ≡ e ∷ front
  pub made : Made p front u
  pub fits : Fits (world u) e

pub is_last : (p u r : Past) (e : Entry) (es : List Entry) → (IsWriters e → ⊥) → IsPrefix p u → Made p es r → r ≡ u ▸ e → IsLast p u e es
is_last p u _ e _ tools i at_first is = absurd (let le = prefix_size p u i in let long : size p ≡ size (u ▸ e) = ap size is in omega (arith, le, long))
is_last p u _ e es tools i (by_writer {q = q} {e = d} m w f) is = absurd (tools (subst IsWriters same w))
  where
    same : d ≡ e
    same = cc
is_last p u _ e _ tools i (by_tool {es = es} {q = q} {e = d} m t f) is = record {
  front = es;
  es_are = ap (λ z. z ∷ es) last;
  made = subst (λ (v : Past). Made p es v) first m;
  fits = subst (λ (v : Past). Fits (world v) e) first (subst (λ (z : Entry). Fits (world q) z) last f);
}
  where
    last : d ≡ e
    last = cc

    first : q ≡ u
    first = cc

-- ---- no read

-- the entry reads another path, or nothing
abbrev pub ReadsElsewhere : Path → Entry → Type 0
ReadsElsewhere x (entry.Reads y place piece) = y ≢ x
ReadsElsewhere x _ = Unit {0}

pub is_unread : (x : Path) (p q : Past) (es : List Entry) → Made p es q → Each (ReadsElsewhere x) es → IsUnread x p q
is_unread x p q es m each r place piece since until = behind (on_way p (r ▸ e) q es m (shorter since) until)
  where
    e : Entry
    e = entry.Reads x place piece

    just : (w : IsOnWay p (r ▸ e) q es) → IsLast p r e w.old → ⊥
    just w k = (each_last (ReadsElsewhere x) w.new (e ∷ k.front) (subst (Each (ReadsElsewhere x)) (w.es_are ∙ ap (λ us. w.new ++ us) k.es_are) each)).0 refl

    behind : IsOnWay p (r ▸ e) q es → ⊥
    behind w = just w (is_last p r (r ▸ e) e w.old (λ i. i) since w.before refl)
