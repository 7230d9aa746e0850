-- What a call that was left teaches.
use Rattle.std.proofs.Common.{◌≡◌, ◌⊎◌, inl, inr, sym, ◌∙◌, ap, subst, Option, Some, List, [], ◌∷◌, reverse}
use Rattle.std.proofs.lemmas.List.{reverse-reverse}
use Rattle.std.specs.Prelude.{filter}
use Rattle.lr_rules.specs.declared.path.Path.{Path}
use Rattle.lr_host.specs.declared.thing.Kind.TheVariants as kind
use Rattle.lr_host.specs.declared.thing.Seen.{Seen}
use Rattle.lr_host.specs.declared.entry.Entry.{Entry}
use Rattle.lr_host.specs.declared.entry.Entry.TheVariants as entry
use Rattle.lr_host.specs.declared.journal.Journal.{Journal}
use Rattle.lr_host.specs.Lists.{IsIn}
use Rattle.lr_host.specs.World.{Past, ◌▸◌, past, world, Names, names}
use Rattle.lr_host.specs.Fits.{Fits}
use Rattle.lr_host.specs.Opening.{IsJournal}
use Rattle.lr_host.specs.Told.{WhereTold, Made, at_first, by_writer, by_tool, Left, not_told, is_told, CanCall, Can}
use Rattle.lr_host.specs.Steps.{is_naming}
use Rattle.lr_host.proofs.More.{IsMore, can_more, wrote_names}
use Rattle.lr_host.proofs.Each.{filter_reverse, none_passed}
use Rattle.lr_host.proofs.Left.{still_step}
use Rattle.lr_host.proofs.Lists.{from_reverse}
use Rattle.lr_host.proofs.Made.{made_journal}
use Rattle.lr_host.proofs.Looked.{seen_file}

one_tells : (P : Names → Type 0) → ((n n' : Names) → IsMore n n' → P n → P n') → (p q : Past) (e : Entry) (es : List Entry) → es ≡ e ∷ [] → Made p es q
    → ((w : Past) → Fits (world w) e → P (names (world (w ▸ e)))) → P (names (world q))
one_tells P stays p q e es is at_first f = absurd (cc)
one_tells P stays p _ e es is (by_writer {q = q} {e = d} m i g) f = stays (names (world q)) (names (world (q ▸ d))) (λ y. wrote_names q d y i) (one_tells P stays p q e es is m f)
one_tells P stays p _ e _ is (by_tool {es = es} {q = q} {e = d} m i g) f = subst (λ x. P (names (world (q ▸ x)))) (sym same) (f q (subst (Fits (world q)) same g))
  where
    same : d ≡ e
    same = cc

-- what an entry says of the names and writers can't end is known behind the call that left it
pub entry_tells : (P : Names → Type 0) → ((n n' : Names) → IsMore n n' → P n → P n') → {e : Entry} {o n : Option Journal} → Left (λ ts. ts ≡ e ∷ []) o n
    → ((w : Past) → Fits (world w) e → P (names (world (w ▸ e)))) → WhereTold n (λ p. P (names (world p)))
entry_tells P stays not_told f = tt
entry_tells P stays {e} (is_told {j = j} {k = k} {es = es} m h) f = one_tells P stays (past j) (past k) e es (sym (reverse-reverse es) ∙ ap reverse h) m f

pub entry_says : {e e' : Entry} {o n : Option Journal} → Left (λ ts. ts ≡ e ∷ []) o n → ((w : Past) → Fits (world w) e → CanCall (names (world (w ▸ e))) e') → Can n e'
entry_says {e} {e'} l f = record { can = entry_tells (λ n. CanCall n e') (λ n n' more c. can_more n n' e' more c) l f }

-- a path where a look saw a file can be read, renamed and so on
pub seen_can_read : {x : Path} {seen : Seen} {o n : Option Journal} → Left (λ ts. ts ≡ entry.Look x (Some seen) ∷ []) o n → seen.kind ≡ kind.File → Can n (entry.Reads x 0 [])
seen_can_read {x} {seen} l k = entry_says l (λ w f. seen_file (world w) (names (world w) x) seen f k)

-- A journal stays one.
pub left_journal : {P : List Entry → Type 0} {o n : Option Journal} → Left P o n → WhereTold o IsJournal → WhereTold n IsJournal
left_journal not_told j = tt
left_journal (is_told {j = j} {k = k} {es = es} m h) v = made_journal (past j) (past k) es m v

-- The same of any entry behind which no name goes.
some_says : (p q : Past) (e e' : Entry) (es : List Entry) → Made p es q → IsIn e es → filter is_naming es ≡ [] → ((w : Past) → Fits (world w) e → CanCall (names (world (w ▸ e))) e') → CanCall (names (world q)) e'
some_says p _ e e' _ at_first h still f = absurd h
some_says p _ e e' es (by_writer {q = q} {e = d} m i g) h still f = can_more (names (world q)) (names (world (q ▸ d))) e' (λ y. wrote_names q d y i) (some_says p q e e' es m h still f)
some_says p _ e e' _ (by_tool {es = es} {q = q} {e = d} m i g) h still f = go (λ there none. some_says p q e e' es m there none f) h
  where
    go : (IsIn e es → filter is_naming es ≡ [] → CanCall (names (world q)) e') → (d ≡ e) ⊎ IsIn e es → CanCall (names (world (q ▸ d))) e'
    go further (inl same) = subst (λ x. CanCall (names (world (q ▸ x))) e') (sym same) (f q (subst (Fits (world q)) same g))
    go further (inr there) = let s = none_passed is_naming d es still in
        can_more (names (world q)) (names (world (q ▸ d))) e' (still_step q d i g s.0) (further there s.1)

pub ever_says : {e e' : Entry} {P : List Entry → Type 0} {o n : Option Journal} → Left P o n → ((ts : List Entry) → P ts → IsIn e ts × (filter is_naming ts ≡ [])) → ((w : Past) → Fits (world w) e → CanCall (names (world (w ▸ e))) e') → Can n e'
ever_says not_told h f = record { can = tt }
ever_says {e} {e'} (is_told {j = j} {k = k} {es = es} m p) h f = record {
  can = some_says (past j) (past k) e e' es m (from_reverse e es (h (reverse es) p).0) (sym (reverse-reverse (filter is_naming es)) ∙ ap reverse (sym (filter_reverse is_naming es) ∙ (h (reverse es) p).1)) f;
}
