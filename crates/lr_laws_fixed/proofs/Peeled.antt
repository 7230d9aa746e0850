-- Two lists that begin the same entries, taken apart from the front.
use Rattle.std.proofs.Common.{◌≡◌, List, [], ◌∷◌, ◌++◌, Option, None, Some, sym, ap, ◌∙◌, subst, append_assoc}
use Rattle.std.proofs.lemmas.Option.{same_Some}
use Rattle.lr_rules.specs.declared.path.Path.{Path}
use Rattle.lr_rules.proofs.Heads.{heads, tails}
use Rattle.lr_host.specs.declared.thing.Seen.{Seen}
use Rattle.lr_host.specs.declared.entry.Entry.{Entry}
use Rattle.lr_host.specs.declared.entry.Entry.TheVariants as entry
use Rattle.lr_host.specs.Looks.{Sees, IsNothing, IsDir, IsNoDir, IsNoFile, IsFileOrGone}
use Rattle.lr_host.specs.Told.{Then}
use Rattle.lr_host.proofs.Fronts.{front_same, saw_same}

-- the same of two parts on each side
pub then_same : {P Q R S : List Entry → Type 0} (ts us vs ws : List Entry) → (t : Then P Q ts) → (u : Then R S us) → ts ++ vs ≡ us ++ ws → t.front ++ (t.back ++ vs) ≡ u.front ++ (u.back ++ ws)
then_same ts us vs ws t u e = sym (append_assoc t.front t.back vs) ∙ (front_same ts us (t.front ++ t.back) (u.front ++ u.back) vs ws t.joined u.joined e ∙ append_assoc u.front u.back ws)

-- and of two parts on the one side alone
pub first_same : {P Q : List Entry → Type 0} (ts us vs ws : List Entry) → (t : Then P Q ts) → ts ++ vs ≡ us ++ ws → t.front ++ (t.back ++ vs) ≡ us ++ ws
first_same ts us vs ws t e = sym (append_assoc t.front t.back vs) ∙ (sym (ap (λ l. l ++ vs) t.joined) ∙ e)

-- both parts the same, so the whole
pub joined_same : {P Q R S : List Entry → Type 0} (ts us : List Entry) → (t : Then P Q ts) → (u : Then R S us) → t.front ≡ u.front → t.back ≡ u.back → ts ≡ us
joined_same ts us t u p q = t.joined ∙ (ap (λ l. l ++ t.back) p ∙ (ap (λ l. u.front ++ l) q ∙ sym u.joined))

-- What two looks that begin the same entries have in common.
pub record OneLook (seen more : Option Seen) (ts us vs ws : List Entry) : Type 0 where
  pub seen_is : seen ≡ more
  pub looks_are : ts ≡ us
  pub rest_is : vs ≡ ws

-- two looks at the front of the same entries are one
pub one_look : (path other : Path) {P Q : Option Seen → Type 0} (ts us vs ws : List Entry) → (s : Sees path P ts) → (t : Sees other Q us) → ts ++ vs ≡ us ++ ws → OneLook s.seen t.seen ts us vs ws
one_look path other ts us vs ws s t e = record { seen_is = saw_same path other s.seen t.seen one; looks_are = s.look ∙ (ap (λ x. x ∷ []) one ∙ sym t.look); rest_is = tails (entry.Look path s.seen) (entry.Look other t.seen) vs ws both }
  where
    both : entry.Look path s.seen ∷ vs ≡ entry.Look other t.seen ∷ ws
    both = front_same ts us (entry.Look path s.seen ∷ []) (entry.Look other t.seen ∷ []) vs ws s.look t.look e

    one : entry.Look path s.seen ≡ entry.Look other t.seen
    one = heads (entry.Look path s.seen) (entry.Look other t.seen) vs ws both

-- ---- what one look can't have shown

-- a file or nothing, and something else
pub file_or_not : (s t : Option Seen) → IsFileOrGone s → IsNoFile t → s ≡ t → ⊥
file_or_not None t h g e = subst IsNoFile (sym e) g
file_or_not (Some a) None h g e = g
file_or_not (Some a) (Some b) h g e = g (sym (ap (λ (s : Seen). s.kind) (same_Some a b e)) ∙ h)

-- a directory, and something else
pub dir_or_not : (s t : Option Seen) → IsDir s → IsNoDir t → s ≡ t → ⊥
dir_or_not None t h g e = h
dir_or_not (Some a) None h g e = g
dir_or_not (Some a) (Some b) h g e = g (sym (ap (λ (s : Seen). s.kind) (same_Some a b e)) ∙ h)

-- a directory, and nothing
pub dir_or_nothing : (s t : Option Seen) → IsDir s → IsNothing t → s ≡ t → ⊥
dir_or_nothing s t h g e = subst IsDir (e ∙ g) h

-- something else than a directory, and nothing
pub not_or_nothing : (s t : Option Seen) → IsNoDir s → IsNothing t → s ≡ t → ⊥
not_or_nothing s t h g e = subst IsNoDir (e ∙ g) h
