-- The text of a table, line by line.
use Rattle.std.proofs.Common.{◌≡◌, sym, ◌∙◌, ap, ℕ, ◌+◌, ◌≤◌, arith, add-one, List, [], ◌∷◌, ◌++◌, take, drop, length, Some, slice_get, append_assoc}
use Rattle.std.specs.List.{flat_map}
use Rattle.std.proofs.lemmas.List.{take_all, take-append-drop, take-append-le, length-take-le}
use Rattle.std.proofs.Math.Seq.{take-append-add}
use Rattle.lr_state.specs.Table.{StateEntry}
use Rattle.lr_state.specs.Written.{entry_line, table_text}
use Rattle.lr_state.specs.Grammar.{top_2}
use borrow.Rule.Slice.PartMut.{put_mid}
use Rattle.std.proofs.lemmas.Grind.{flat_map-append}
use Rattle.lr_state.proofs.Lengths.{flat-suc}

-- one line more
pub text_next : (es : List StateEntry) (k : ℕ) (e : StateEntry) → slice_get es k ≡ Some e → table_text (take (k + 1) es) ≡ table_text (take k es) ++ entry_line e
text_next es k e at = ap (λ n. table_text (take n es)) (add-one k) ∙ (ap (λ xs. (top_2 ++ 10 ∷ []) ++ xs) (flat-suc entry_line es k e at) ∙ sym (append_assoc (top_2 ++ 10 ∷ []) (flat_map entry_line (take k es)) (entry_line e)))

-- the lines so far, and those that follow
pub text_rest : (es : List StateEntry) (k : ℕ) → table_text (take k es) ++ flat_map entry_line (drop k es) ≡ table_text es
text_rest es k = append_assoc (top_2 ++ 10 ∷ []) (flat_map entry_line (take k es)) (flat_map entry_line (drop k es))
    ∙ ap (λ xs. (top_2 ++ 10 ∷ []) ++ xs) (sym (flat_map-append entry_line (take k es) (drop k es)) ∙ ap (flat_map entry_line) (take-append-drop k es))

pub text_all : (es : List StateEntry) (k : ℕ) → k ≡ length es → table_text (take k es) ≡ table_text es
text_all es k e = ap table_text (take_all k es (omega (arith, e)))

-- the first bytes of a part that was written anew
pub take_written : (held k count : ℕ) (xs ys : List ℕ) → held ≤ length xs → count ≤ length ys → take (held + count) (put_mid held k xs ys) ≡ take held xs ++ take count ys
take_written held k count xs ys le short =
    let rest = drop k (drop held xs) in
    let long : length (take held xs) ≡ held = length-take-le held xs le in
    ap (λ n. take (n + count) (take held xs ++ (ys ++ rest))) (sym long) ∙ (take-append-add (take held xs) (ys ++ rest) count ∙ ap (λ zs. take held xs ++ zs) (take-append-le count ys rest short))
