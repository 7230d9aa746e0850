use Rattle.std.proofs.Common.{◌≡◌, refl, ap, ◌∙◌, cond, nat_eq, None}
use Rattle.std.specs.Vec.{with_items}
use Rattle.std.proofs.lemmas.List.{with_items_is}
use Rattle.lr_disk.specs.State.{hold_in}
use Rattle.lr_disk.proofs.StateLemmas.{shows_holding}
use Rattle.lr_disk.proofs.change.detach.Goals as goal

pub returns : goal.returns
returns c = λ w shows.
    let s = c.args.state.now in
    let holds_is : (with_items s.holds c.set_hold.new.holds).items ≡ c.set_hold.new.holds = with_items_is s.holds c.set_hold.new.holds (c.set_hold.auto.holds ∙ c.deref_mut.ensures.len) in
    shows_holding s _ w c.args.writer None shows refl refl refl
    (λ v. ap (λ hs. hold_in hs v) holds_is ∙ (c.set_hold.ensures v ∙ ap (λ hs. cond (nat_eq c.args.writer v) None (hold_in hs v)) c.deref_mut.ensures.value))
