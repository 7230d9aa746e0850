-- The looks of a run, and the disk as it looked.
use Rattle.std.specs.Prelude.{List, reverse}
use Rattle.lr_rules.specs.declared.rule.Rule.{Rule}
use Rattle.lr_host.specs.declared.entry.Entry.{Entry}
use Rattle.lr_host.specs.Told.{Made}
use Rattle.lr_host.specs.World.{Past}
use Rattle.lr_host.specs.Safe.{IsPrefix}
use Rattle.lr_plan.specs.declared.looks.SetLooks.{SetLooks}
use Rattle.lr_looks.specs.Sights.{WordSight}
use Rattle.lr_laws_looks.specs.True.{AreTrue}

-- Between the two pasts these entries were made, and then those of the looking; and what this came to was true of the disk, from
-- the moment just before it to the one just behind it.
pub record WereTrue (rules : List Rule) (sights : List WordSight) (sets : List SetLooks) (front looking : List Entry)
    (before after : Past) : Type 0 where
  pub at : Past
  pub looked : Past
  pub since : Made before (reverse front) at
  pub between : Made at (reverse looking) looked
  pub until : IsPrefix looked after
  pub are_true : AreTrue rules sights sets at looked
