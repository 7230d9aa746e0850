use Rattle.std.proofs.Common.{rules, ◌≡◌, to_z, of_z, w64, sym, ap, subst, ◌∙◌}
use Rattle.lr_host.specs.declared.entry.Entry.TheVariants as entry
use Rattle.lr_host.specs.World.{effect}
use Rattle.lr_disk.specs.State.{ShowsWorld}
use Rattle.lr_disk.proofs.apply.apply.Goals as goal

pub returns-in-Feed : goal.returns-in-Feed
returns-in-Feed c = λ w shows.
    let at : to_z w64 (of_z w64 c.in-Feed.at) ≡ c.in-Feed.at = search rules in
    subst (λ e. ShowsWorld c.feed.new.state (effect w e)) (sym (c.in-Feed.is ∙ ap (λ b. entry.Feed c.in-Feed.writer b c.in-Feed.at) (sym c.as_slice.ensures)))
    (subst (λ z. ShowsWorld c.feed.new.state (effect w (entry.Feed c.in-Feed.writer c.as_slice.result.now z))) at (c.feed.ensures w shows))

pub returns-in-Flush : goal.returns-in-Flush
returns-in-Flush c = λ w shows. subst (λ e. ShowsWorld c.flush.new.state (effect w e)) (sym c.in-Flush.is) (c.flush.ensures w shows)

pub returns-in-Detach : goal.returns-in-Detach
returns-in-Detach c = λ w shows. subst (λ e. ShowsWorld c.detach.new.state (effect w e)) (sym c.in-Detach.is) (c.detach.ensures w shows)

pub returns-in-Cut : goal.returns-in-Cut
returns-in-Cut c = λ w shows. subst (λ e. ShowsWorld c.cut.new.state (effect w e)) (sym (c.in-Cut.is ∙ (ap (λ k. entry.Cut k c.in-Cut.lengths) (sym c.as_slice-in-Cut.ensures) ∙ ap (λ l. entry.Cut c.as_slice-in-Cut.result.now l) (sym c.as_slice-in-Cut-2.ensures)))) (c.cut.ensures w shows)
