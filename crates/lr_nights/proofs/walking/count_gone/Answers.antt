use Rattle.std.proofs.Common.{ap, ◌∙◌}
use Rattle.lr_host.specs.World.{world}
use Rattle.lr_nights.specs.Marks.{is_marked}
use Rattle.lr_nights.proofs.Marked.{gone_all}
use Rattle.lr_nights.proofs.walking.count_gone.Goals as goal

pub returns : goal.returns
returns c = λ sets p is.
    gone_all sets p c.named.result.now c.args.walk.now.marks.items c.deref.result.now c.count_marks.result (record { once = c.named.ensures.once; named = c.named.ensures.named (world p) is.shows }) is.marked
    (λ g. ap (λ ms. is_marked ms g) c.deref.ensures.value ∙ c.unmark_names.ensures g) c.count_marks.ensures
