-- The answers of a call, by its counts, its words and its notes.
use Rattle.std.proofs.Common.{◌≡◌, ℕ, ℤ, Bool, true, false, List, [], ◌∷◌, ◌++◌, take, Option, Some, Result, sym, ap, subst, append_assoc}
use Rattle.std.specs.Prelude.{OnOk, codes}
use Rattle.std.specs.List.{concat}
use Rattle.lr_rules.specs.declared.path.Path.{Path}
use Rattle.lr_host.specs.declared.journal.Journal.{Journal}
use Rattle.lr_report.specs.Puts.{Took, TookPart}
use Rattle.lr_report.proofs.PutLemmas.{took_none, whole_as, part_as}
use Rattle.lr_cat.specs.declared.outcome.CatOutcome.{CatOutcome}
use Rattle.lr_cat.specs.declared.words.Wanted.{Wanted}
use Rattle.lr_cat.specs.Came.{CatEnds, CatShows}
use Rattle.lr_cat.specs.Internal.{CameSo}
use Rattle.lr_cat.specs.Outcome.{log_of, notes_of, notes_text, waits_line}
use Rattle.lr_cat.specs.Says.{Noted}
use Rattle.lr_cat.specs.Words.{wanted}
use Rattle.lr_cat.proofs.Calling.{at_seconds, words_end}

-- ---- the notes

-- the line of a log that waits, as it is put
waits_is : (log : Path) → concat (codes "logrotate: notice: " ∷ log ∷ codes ".tmp: waits for the next rotation\n" ∷ []) ≡ waits_line true log
waits_is log = ap (λ (bs : List ℕ). codes "logrotate: notice: " ++ bs) (sym (append_assoc log (codes ".tmp") (codes ": waits for the next rotation\n" ++ [])))

module _ (log bytes : Path) (waits : Bool) (is : waits ≡ true) (same : bytes ≡ log) where
  line_is : concat (codes "logrotate: notice: " ∷ bytes ∷ codes ".tmp: waits for the next rotation\n" ∷ []) ≡ waits_line waits log
  line_is = subst (λ (b : Bool). concat (codes "logrotate: notice: " ∷ bytes ∷ codes ".tmp: waits for the next rotation\n" ∷ []) ≡ waits_line b log) (sym is)
      (subst (λ (bs : Path). concat (codes "logrotate: notice: " ∷ bs ∷ codes ".tmp: waits for the next rotation\n" ∷ []) ≡ waits_line true log) (sym same) (waits_is log))

  pub waits_whole : {T E : Type 0} (r : Result T E) (x y : Option (List ℕ)) → OnOk r (Took (concat (codes "logrotate: notice: " ∷ bytes ∷ codes ".tmp: waits for the next rotation\n" ∷ [])) x y) → OnOk r (Took (waits_line waits log) x y)
  waits_whole r x y t = whole_as r _ _ x y line_is t

  pub waits_part : (x y : Option (List ℕ)) → TookPart (concat (codes "logrotate: notice: " ∷ bytes ∷ codes ".tmp: waits for the next rotation\n" ∷ [])) x y → TookPart (waits_line waits log) x y
  waits_part x y t = part_as _ _ x y line_is t

pub not_waiting : (log : Path) (waits : Bool) (x : Option (List ℕ)) → waits ≡ false → Took (waits_line waits log) x x
not_waiting log waits x is = subst (λ (b : Bool). Took (waits_line b log) x x) (sym is) (took_none x)

pub not_waiting_part : (log : Path) (waits : Bool) (x : Option (List ℕ)) → waits ≡ false → TookPart (waits_line waits log) x x
not_waiting_part log waits x is = (0, not_waiting_first)
  where
    not_waiting_first : Took (take 0 (waits_line waits log)) x x
    not_waiting_first = took_none x

pub noted_so : (here : Path) (words : List (List ℕ)) (w : Wanted) (out same : CatOutcome) (x y : Option (List ℕ)) (low high : ℕ) → wanted here words ≡ Some w → same ≡ out → Noted (notes_of w.log out) x y low high → Noted (notes_text here words same) x y low high
noted_so here words w out same x y low high want is n = subst (λ (z : CatOutcome). Noted (notes_text here words z) x y low high) (sym is) (subst (λ (v : Option Wanted). Noted (notes_of (log_of v) out) x y low high) (sym want) n)

-- ---- the words

pub words_so : (here : Path) (words : List (List ℕ)) (s seconds : ℤ) (w : Wanted) (out same : CatOutcome) {o k : Option Journal} {x y : Option (List ℕ)} → wanted here words ≡ Some w → s ≡ seconds → same ≡ out → CameSo (CatEnds w s out) o k x y
    → CameSo (CatShows here words seconds same) o k x y
words_so here words s seconds w out same {o = o} {k = k} {x = x} {y = y} want is e c =
    words_end here words seconds w same want (at_seconds w same s seconds is (subst (λ (z : CatOutcome). CameSo (CatEnds w s z) o k x y) (sym e) c))
