-- The row of a word is the first with this word.
use Rattle.std.proofs.Common.{◌≡◌, ℕ, zero, suc, Bool, true, false, cond, List, [], ◌∷◌, map, Some, None, get_or, slice_get, bytes_eq, refl, sym, ap, ◌∙◌}
use Rattle.std.specs.List.{find}
use Rattle.std.specs.Option.{option_map}
use Rattle.std.proofs.lemmas.Slice.Eq.{bytes_eq-Decides}
use Rattle.lr_tables.specs.declared.keyed.Row.{Row}
use Rattle.lr_tables.specs.Directives.{RowSays, contents, directive_table}
use Rattle.lr_tables.specs.Table.{words, IsRowOf}
use Rattle.lr_forms.specs.Says.{directive_of}

-- each word of the table has its own row
all_rows : map (λ s. directive_of s.word) directive_table ≡ map (λ s. Some s.directive) directive_table
unfolding directive_of
all_rows = refl

through : {A : Type 0} (f : RowSays → A) (rows : List Row) → map (λ r. f (record { word = r.word.now; directive = r.directive; undoes = r.undoes })) rows ≡ map f (contents rows)
through f [] = refl
through f (r ∷ rs) = ap (λ xs. f (record { word = r.word.now; directive = r.directive; undoes = r.undoes }) ∷ xs) (through f rs)

of_rows : (rows : List Row) → contents rows ≡ directive_table → map (λ r. directive_of r.word.now) rows ≡ map (λ r. Some r.directive) rows
of_rows rows e =
    through (λ s. directive_of s.word) rows ∙ ap (map (λ s. directive_of s.word)) e ∙ all_rows ∙ sym (ap (map (λ s. Some s.directive)) e) ∙ sym (through (λ s. Some s.directive) rows)

at_row : (word : List ℕ) (d : Row) (rows : List Row) → map (λ r. directive_of r.word.now) rows ≡ map (λ r. Some r.directive) rows
    → (i : ℕ) → slice_get (words rows) i ≡ Some word → Some (get_or rows i d).directive ≡ directive_of word
at_row word d [] h i at = absurd (cc)
at_row word d (r ∷ rs) h zero at = cc
at_row word d (r ∷ rs) h (suc i) at = let t : map (λ r. directive_of r.word.now) rs ≡ map (λ r. Some r.directive) rs = cc in at_row word d rs t i at

pub found : (rows : List Row) (word : List ℕ) (i : ℕ) (d : Row) → contents rows ≡ directive_table → IsRowOf rows word i → Some (get_or rows i d).directive ≡ directive_of word
found rows word i d e at = at_row word d rows (of_rows rows e) i at

none_in : (word : List ℕ) (rows : List Row) → ((i : ℕ) → slice_get (words rows) i ≡ Some word → ⊥) → find (λ s. bytes_eq s.word word) (contents rows) ≡ None
none_in word [] h = refl
none_in word (r ∷ rs) h = by_test (bytes_eq r.word.now word) refl (none_in word rs (λ i. h (suc i)))
  where
    by_test : (b : Bool) → bytes_eq r.word.now word ≡ b → find (λ s. bytes_eq s.word word) (contents rs) ≡ None
        → cond b (Some (record { word = r.word.now; directive = r.directive; undoes = r.undoes })) (find (λ s. bytes_eq s.word word) (contents rs)) ≡ None
    by_test true is rest = absurd (h zero (ap Some ((bytes_eq-Decides r.word.now word).0 is)))
    by_test false is rest = rest

pub none : (rows : List Row) (word : List ℕ) → contents rows ≡ directive_table → ((i : ℕ) → IsRowOf rows word i → ⊥) → None ≡ directive_of word
unfolding directive_of
none rows word e h = sym (ap (λ t. option_map (λ row. row.directive) (find (λ s. bytes_eq s.word word) t)) (sym e) ∙ ap (option_map (λ row. row.directive)) (none_in word rows h))
