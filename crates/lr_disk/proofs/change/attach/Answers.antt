use Rattle.std.proofs.Common.{◌≡◌, refl, ap, sym, subst, w64, ◌∙◌, cond, nat_eq, Some, None, length}
use Rattle.std.specs.Vec.{with_items}
use Rattle.std.proofs.lemmas.Int.{to_z-of_z}
use Rattle.std.proofs.lemmas.List.{with_items_is}
use Rattle.lr_disk.specs.Names.{named_in}
use Rattle.lr_disk.specs.State.{ShowsWorld, hold_in, made_world}
use Rattle.lr_disk.proofs.StateLemmas.{shows_attached, shows_drawn, shows_unattached}
use Rattle.lr_disk.proofs.change.attach.Goals as goal

pub returns-in-Nothing : goal.returns-in-Nothing
returns-in-Nothing c = λ w shows.
    let r = c.draw.new.state in
    let named : c.thing_at.result ≡ named_in c.args.state.now.tree.names.items c.args.path.now = c.thing_at.ensures ∙ (ap (λ ns. named_in ns c.bytes.result.now) c.deref.ensures.value ∙ ap (named_in c.args.state.now.tree.names.items) c.bytes.ensures.bytes) in
    let size : c.len-identity.result ≡ length c.args.state.now.files.items = c.len-identity.ensures ∙ c.args.state.now.files.ok.0 in
    let holds_is : (with_items r.holds c.set_hold.new.holds).items ≡ c.set_hold.new.holds = with_items_is r.holds c.set_hold.new.holds (c.set_hold.auto.holds ∙ c.deref_mut.ensures.len) in
    shows_drawn c.args.state.now r _ w c.args.writer c.args.path.now c.args.at (sym named ∙ c.in-Nothing.is) shows (subst (λ z. ShowsWorld r (made_world w c.args.path.now z None)) (to_z-of_z w64 c.args.at c.ranges.at) (c.draw.ensures.made w c.args.path.now c.requires.ready.0 shows)) refl refl refl
    (λ v. ap (λ hs. hold_in hs v) holds_is ∙ (c.set_hold.ensures v ∙ (ap (λ hs. cond (nat_eq c.args.writer v) (Some c.len-identity.result) (hold_in hs v)) c.deref_mut.ensures.value ∙ ap (λ d. cond (nat_eq c.args.writer v) (Some d) (hold_in r.holds.items v)) size)))

pub returns-in-File : goal.returns-in-File
returns-in-File c = λ w shows.
    let s = c.args.state.now in
    let named : c.thing_at.result ≡ named_in s.tree.names.items c.args.path.now = c.thing_at.ensures ∙ (ap (λ ns. named_in ns c.bytes.result.now) c.deref.ensures.value ∙ ap (named_in s.tree.names.items) c.bytes.ensures.bytes) in
    let holds_is : (with_items s.holds c.set_hold-in-File.new.holds).items ≡ c.set_hold-in-File.new.holds = with_items_is s.holds c.set_hold-in-File.new.holds (c.set_hold-in-File.auto.holds ∙ c.deref_mut-in-File.ensures.len) in
    shows_attached s _ w c.args.writer c.args.path.now c.args.at c.in-File.identity (sym named ∙ c.in-File.is) shows refl refl refl
    (λ v. ap (λ hs. hold_in hs v) holds_is ∙ (c.set_hold-in-File.ensures v ∙ ap (λ hs. cond (nat_eq c.args.writer v) (Some c.in-File.identity) (hold_in hs v)) c.deref_mut-in-File.ensures.value))

pub returns-in_default : goal.returns-in_default
returns-in_default c = λ w shows.
    let s = c.args.state.now in
    let named : c.thing_at.result ≡ named_in s.tree.names.items c.args.path.now = c.thing_at.ensures ∙ (ap (λ ns. named_in ns c.bytes.result.now) c.deref.ensures.value ∙ ap (named_in s.tree.names.items) c.bytes.ensures.bytes) in
    let holds_is : (with_items s.holds c.set_hold-in_default.new.holds).items ≡ c.set_hold-in_default.new.holds = with_items_is s.holds c.set_hold-in_default.new.holds (c.set_hold-in_default.auto.holds ∙ c.deref_mut-in_default.ensures.len) in
    shows_unattached s _ w c.args.writer c.args.path.now c.args.at c.thing_at.result (sym named) c.in_default.not-Nothing c.in_default.not-File shows refl refl refl
    (λ v. ap (λ hs. hold_in hs v) holds_is ∙ (c.set_hold-in_default.ensures v ∙ ap (λ hs. cond (nat_eq c.args.writer v) None (hold_in hs v)) c.deref_mut-in_default.ensures.value))
