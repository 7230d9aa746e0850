use Rattle.std.proofs.Common.{◌≡◌, ◌∙◌, ap, sym, ℕ, ◌+◌, ◌-◌, ◌<◌, List, ◌∷◌, length, take, drop, arith}
use Rattle.std.specs.List.{slice_split, position_or_len}
use Rattle.std.proofs.lemmas.List.Splits.{slice_split_first}
use Rattle.lr_state.proofs.Cuts.{split-none}
use Rattle.std.proofs.lemmas.List.{take_rest}
use Rattle.lr_rules.specs.Bytes.{is_newline}
use Rattle.lr_state.proofs.text.cut_line.Goals as goal

cut : (text : List ℕ) (end : ℕ) → end ≡ position_or_len is_newline text → end < length text
    → slice_split is_newline text ≡ take end text ∷ slice_split is_newline (take (length text - (end + 1)) (drop (end + 1) text))
cut text end e lt =
    let first : position_or_len is_newline text < length text = omega (arith, e) in
    slice_split_first is_newline text 0 first
    ∙ ap (λ n. take n text ∷ slice_split is_newline (drop (n + 1) text)) (sym e)
    ∙ ap (λ xs. take end text ∷ slice_split is_newline xs) (sym (take_rest text (end + 1)))

pub returns-then-end-text-clause-lines : goal.returns-then-end-text-clause-lines
returns-then-end-text-clause-lines c =
    let end = c.line_end-end.ensures.end in
    cut c.args.text.now c.line_end-end.result end (omega (arith, end))

pub returns-else-end-text-clause-lines : goal.returns-else-end-text-clause-lines
returns-else-end-text-clause-lines c =
    let end = c.line_end-end.ensures.end in
    split-none is_newline c.args.text.now (omega (arith, end))
