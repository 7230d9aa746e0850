use Rattle.std.proofs.Common.{sym, ◌∙◌}
use Rattle.lr_host.specs.World.{world, ◌▸◌}
use Rattle.lr_nights.proofs.Generations.{generations_still, generations_on}
use Rattle.lr_nights.proofs.walking.follow.Goals as goal

pub returns-then-not-renames : goal.returns-then-not-renames
returns-then-not-renames c = λ sets p are is. record {
  shows = c.in_ok-follow.ensures.ok (world p) is.shows;
  marked = λ g. generations_still sets p c.args.entry.now g _ (sym c.renames.ensures ∙ c.if-not-renames.true) (is.marked g);
}

pub returns : goal.returns
returns c = λ sets p are is.
    let shows = c.in_ok-follow.ensures.ok (world p) is.shows in
    record {
      shows = shows;
      marked = λ g. generations_on c.args.logs.now sets p c.args.entry.now g _ _ are (is.marked g) (c.in_ok-mark_logs.ensures (world (p ▸ c.args.entry.now)) shows g);
    }
