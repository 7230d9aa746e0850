use Rattle.std.proofs.Common.{inl, inr, ap, Ok, sym, ◌∙◌}
use Rattle.lr_host.specs.Looks.{IsDir}
use Rattle.lr_host.proofs.Left.{left_as}
use Rattle.lr_host.proofs.Looking.{is_a_dir}
use Rattle.lr_chain.proofs.Dirs.{look_failed, look_saw, look_missed}
use Rattle.lr_chain.proofs.directory.make_directory.Goals as goal

pub returns-then-made-clause-told : goal.returns-then-made-clause-told
returns-then-made-clause-told g c = left_as (rw c.if-made.true at c.in-Ok.ensures.told) (λ ts t. inl t)

pub returns-in_default-look-clause-refused : goal.returns-in_default-look-clause-refused
returns-in_default-look-clause-refused g c = look_failed (rw c.if-made.false at c.in-Ok.ensures.told) c.in_default-look.ensures.told

pub returns-then-shows_dir-clause-told : goal.returns-then-shows_dir-clause-told
returns-then-shows_dir-clause-told g c =
    left_as (look_saw c.args.dir.now c.in-Ok-look.look {P = IsDir} (is_a_dir c.in-Ok-look.look (sym c.shows_dir.ensures ∙ c.if-shows_dir.true)) (rw c.if-made.false at c.in-Ok.ensures.told) c.in-Ok-look.ensures.told) (λ ts t. inr t)

pub returns-else-shows_dir-clause-refused : goal.returns-else-shows_dir-clause-refused
returns-else-shows_dir-clause-refused g c =
    look_missed c.args.dir.now c.in-Ok-look.look (sym c.shows_dir.ensures ∙ c.if-shows_dir.false) (c.in-Ok.ensures.named (ap Ok c.if-made.false)) (rw c.if-made.false at c.in-Ok.ensures.told) c.in-Ok-look.ensures.told
