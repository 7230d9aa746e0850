use Rattle.std.proofs.Common.{◌≡◌, ⊎_elim, inl, inr, ◌<◌, length, take, false, ◌∙◌, ap, subst, sym, bytes_eq, [], ◌∷◌, ◌++◌, true, arith}
use Rattle.std.proofs.lemmas.List.{take_all}
use Rattle.lr_host.specs.declared.thing.Thing.TheVariants as thing
use Rattle.lr_host.specs.Lists.{AreDistinct}
use Rattle.lr_disk.specs.Pairs.{keys}
use Rattle.lr_disk.specs.Names.{named_in, has_path}
use Rattle.lr_disk.proofs.PairLemmas.{value_of_last, has_at, has_last, has_kept, has_only, once_last, bytes_tell}
use Rattle.lr_disk.proofs.names.make_name.Goals as goal

pub returns-clause-same : goal.returns-clause-same
returns-clause-same c = λ x. ap (λ ns. named_in ns x) c.in_ok-push.ensures.items ∙ value_of_last bytes_eq thing.Nothing c.args.names.now.items _ x

pub returns-clause-here : goal.returns-clause-here
returns-clause-here c =
    ap (λ ns. has_path ns c.args.path.now) c.in_ok-push.ensures.items
    ∙ subst (λ p. has_path (c.args.names.now.items ++ (c.in_ok-copy.field-0, thing.Nothing) ∷ []) p ≡ true) c.in_ok-copy.ensures
    (has_last bytes_eq bytes_tell c.args.names.now.items c.in_ok-copy.field-0 thing.Nothing)

pub returns-clause-others : goal.returns-clause-others
returns-clause-others c = λ x h. ap (λ ns. has_path ns x) c.in_ok-push.ensures.items ∙ has_kept bytes_eq c.args.names.now.items _ x h

pub returns-clause-once : goal.returns-clause-once
returns-clause-once c = λ once.
    let same = c.as_slice-pair-items.ensures.value in
    let all : take c.loop-pair.pair-index c.as_slice-pair-items.result.now ≡ c.args.names.now.items = take_all c.loop-pair.pair-index c.as_slice-pair-items.result.now (omega arith) ∙ same in
    let new : has_path c.args.names.now.items c.in_ok-copy.field-0 ≡ false =
    subst (λ p. has_path c.args.names.now.items p ≡ false) (sym c.in_ok-copy.ensures) (subst (λ ns. has_path ns c.args.path.now ≡ false) all c.loop-pair.invariant) in
    subst (λ ns. AreDistinct (keys ns)) (sym c.in_ok-push.ensures.items) (once_last bytes_eq bytes_tell c.args.names.now.items _ new once)

pub returns-then-is-clause-here : goal.returns-then-is-clause-here
returns-then-is-clause-here c =
    let same = c.as_slice-pair-items.ensures.value in
    let within : c.loop-pair.pair-index < length c.as_slice-pair-items.result.now = omega arith in
    subst (λ ns. has_path ns c.args.path.now ≡ true) same
    (has_at bytes_eq c.as_slice-pair-items.result.now c.loop-pair.pair-index c.pair-item.result c.args.path.now within
    (subst (λ p. bytes_eq p.0 c.args.path.now ≡ true) c.pair-item.is (sym c.is.ensures.test ∙ c.if-is.true)))

pub returns-clause-only : goal.returns-clause-only
returns-clause-only c = λ x h.
    ⊎_elim (λ old. inl old) (λ new. inr (sym c.in_ok-copy.ensures ∙ new))
    (has_only bytes_eq bytes_tell c.args.names.now.items (c.in_ok-copy.field-0, thing.Nothing) x (sym (ap (λ ns. has_path ns x) c.in_ok-push.ensures.items) ∙ h))
