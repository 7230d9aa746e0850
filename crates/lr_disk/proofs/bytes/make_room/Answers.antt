use Rattle.std.proofs.Common.{◌≡◌, ◌+◌, ◌≤◌, Some, refl, arith, sym, subst, ◌∙◌}
use Rattle.std.specs.Prelude.{vec_len, vec_capacity, slice_get, slice_set}
use Rattle.lr_disk.proofs.StateLemmas.{set_same, shows_kept, same_names, get_set, get_none}
use Rattle.lr_disk.proofs.bytes.make_room.Goals as goal

some_same : {A : Type 0} {x y : A} → Some x ≡ Some y → x ≡ y
some_same e = cc

pub returns-in_err-reserve_more-clause-same : goal.returns-in_err-reserve_more-clause-same
returns-in_err-reserve_more-clause-same c = λ w shows.
    shows_kept _ _ w shows (same_names c.args.state.now w shows)
    (set_same c.args.state.now.files.items c.in-Some.identity c.index_mut.result.now c.reserve_more.new.file c.index_mut.ensures.value c.reserve_more.ensures.same) (λ v. refl) refl

pub returns-in_ok-reserve_more-clause-same : goal.returns-in_ok-reserve_more-clause-same
returns-in_ok-reserve_more-clause-same c = λ w shows.
    shows_kept _ _ w shows (same_names c.args.state.now w shows)
    (set_same c.args.state.now.files.items c.in-Some.identity c.index_mut.result.now c.reserve_more.new.file c.index_mut.ensures.value c.reserve_more.ensures.same) (λ v. refl) refl

pub returns-in_ok-reserve_more-clause-room : goal.returns-in_ok-reserve_more-clause-room
returns-in_ok-reserve_more-clause-room c = λ k held x at.
    let same : k ≡ c.in-Some.identity = some_same (sym held ∙ c.in-Some.is) in
    let is : x ≡ c.reserve_more.new.file = get_set c.args.state.now.files.items c.in-Some.identity _ x (omega (arith, c.if-place-len.true, c.len.ensures))
    (subst (λ i. slice_get (slice_set c.args.state.now.files.items c.in-Some.identity c.reserve_more.new.file) i ≡ Some x) same at) in
    subst (λ y. vec_len y.bytes + c.args.more ≤ vec_capacity y.bytes) (sym is) c.in_ok-reserve_more.ensures.room

pub returns-else-place-len-clause-room : goal.returns-else-place-len-clause-room
returns-else-place-len-clause-room c = λ k held x at.
    let same : k ≡ c.in-Some.identity = some_same (sym held ∙ c.in-Some.is) in
    absurd (get_none c.args.state.now.files.items k x (omega (arith, c.if-place-len.false, c.len.ensures)) at)
