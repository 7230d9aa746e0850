-- Lists of entries, one entry more.
use Rattle.std.proofs.Common.{◌≡◌, ◌∙◌, ap, sym, refl, ℕ, zero, suc, ◌+◌, ◌<◌, List, [], ◌∷◌, ◌++◌, length, take, Some, slice_get, append_assoc, arith, add-one}
use Rattle.std.specs.List.{flat_map}
use Rattle.std.proofs.lemmas.List.{append-nil}
use Rattle.lr_state.specs.Table.{StateEntry}

pub entry-at : (es : List StateEntry) (k : ℕ) → k < length es → (e : StateEntry) × (slice_get es k ≡ Some e)
entry-at [] k lt = absurd (omega arith)
entry-at (x ∷ xs) zero lt = (x, refl)
entry-at (x ∷ xs) (suc k) lt = entry-at xs k (omega arith)

pub flat-suc : (f : StateEntry → List ℕ) (es : List StateEntry) (k : ℕ) (e : StateEntry) → slice_get es k ≡ Some e → flat_map f (take (suc k) es) ≡ flat_map f (take k es) ++ f e
flat-suc f [] k e at = absurd (cc at)
flat-suc f (x ∷ xs) zero e at =
    let same : x ≡ e = cc at in
    append-nil (f x) ∙ ap f same
flat-suc f (x ∷ xs) (suc k) e at = ap (λ t. f x ++ t) (flat-suc f xs k e at) ∙ sym (append_assoc (f x) (flat_map f (take k xs)) (f e))

pub flat-next : (f : StateEntry → List ℕ) (es : List StateEntry) (k : ℕ) (e : StateEntry) → slice_get es k ≡ Some e → flat_map f (take (k + 1) es) ≡ flat_map f (take k es) ++ f e
flat-next f es k e at = ap (λ n. flat_map f (take n es)) (add-one k) ∙ flat-suc f es k e at
