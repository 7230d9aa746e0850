-- A log that a run rotates whole, with the changes of other logs and of the state between its steps.
use Rattle.std.proofs.Common.{◌≡◌, inr, sym, ◌∙◌, ap, subst, List, ◌∷◌, ◌++◌, append_assoc, Option, None}
use Rattle.std.specs.Prelude.{filter}
use Rattle.std.proofs.lemmas.List.Elements.{All-weaker}
use Rattle.lr_rules.specs.declared.clock.Clock.{Clock}
use Rattle.lr_rules.specs.declared.path.Path.{Path}
use Rattle.lr_rules.specs.declared.rule.Naming.{Naming}
use Rattle.lr_rules.specs.declared.rules.Rules.{Rules}
use Rattle.lr_host.specs.declared.entry.Entry.{Entry}
use Rattle.lr_host.specs.declared.entry.Entry.TheVariants as entry
use Rattle.lr_host.specs.Lists.{IsIn}
use Rattle.lr_host.specs.Quiet.{is_disk_change, AreQuiet, ChangeNothing}
use Rattle.lr_host.proofs.Lists.{in_back}
use Rattle.lr_host.proofs.Quiet.{quiet_still, still_both}
use Rattle.lr_family.specs.declared.stand.Member.{Member}
use Rattle.lr_family.specs.Looks.{WasSeen}
use Rattle.lr_copy.specs.declared.job.Job.{Job}
use Rattle.lr_laws_family.specs.Beside.{IsBeside}
use Rattle.lr_laws_family.specs.Made.{IsBetween, RotatesAmong}
use Rattle.lr_laws_family.specs.Rotation.{part_paths, rotation_steps}
use Rattle.lr_laws_family.specs.Shown.{SawFile, IsUnseen, unlisted, gone, no_dir, Shown}
use Rattle.lr_laws_family.specs.Weave.{Weave}
use Rattle.lr_laws_family.proofs.Woven.{among}
use Rattle.lr_laws_rotations.proofs.Moments.{saw_one}
use Rattle.lr_laws_rotations.specs.AllTurns.{paths_beside}
use Rattle.lr_laws_rotations.specs.Rotation.{by_of, rotation_by}
use Rattle.lr_laws_rotations.specs.Target.{Target, source_by, source_of}
use Rattle.lr_laws_rotations.specs.Apart.{HasNames}
use Rattle.lr_laws_rotations.proofs.Others.{rotates_beside}
use Rattle.lr_laws_rotations.proofs.Rotating.{renamed_steps}
use Rattle.lr_laws_rotations.specs.Runs.{AllTurnedBy}
use Rattle.lr_laws_rotations.specs.Seen.{IsLogSeen}
use Rattle.lr_laws_rotations.proofs.Way.{not_aside}
use Rattle.lr_laws_rotations.proofs.LogSeen.{any_names, log_among}

-- what some entries show, more entries do
unseen_more : (dir x : Path) (ts us : List Entry) → ((e : Entry) → IsIn e ts → IsIn e us) → IsUnseen dir x ts → IsUnseen dir x us
unseen_more dir x ts us more (unlisted names i out) = unlisted names (more (entry.List dir names) i) out
unseen_more dir x ts us more (gone i) = gone (more (entry.Look x None) i)
unseen_more dir x ts us more (no_dir i) = no_dir (more (entry.Look dir None) i)

pub shown_more : (n : Naming) (members : List Member) (ts us : List Entry) → ((e : Entry) → IsIn e ts → IsIn e us) → Shown n members ts → Shown n members us
shown_more n members ts us more s = record {
  newest_first = s.newest_first;
  named = s.named;
  files = All-weaker (WasSeen ts) (WasSeen us) (λ m seen. (seen.0, more _ seen.1)) members s.files;
  others = λ x is none. unseen_more n.dir x ts us more (s.others x is none);
}

module _ (state : Path) (clock : Clock) (rules : Rules) (reads tail : List Entry) (t : AllTurnedBy state clock rules tail) (x : Target) (read : AreQuiet reads) (i : IsIn x t.turns.targets) where
  abbrev paths : List Path
  paths = paths_beside state x t.turns.targets

  abbrev starts : Entry
  starts = entry.Starts state clock.now rules

  l : IsLogSeen rules clock t.turns.looks x
  l = log_among rules clock t.turns.looks t.turns.targets t.turns.seen x i

  abbrev pub front : List Entry
  front = reads ++ starts ∷ t.turns.looks

  pub front_is : reads ++ starts ∷ tail ≡ front ++ t.turns.acts
  front_is = ap (λ ts. reads ++ starts ∷ ts) t.turns.joined ∙ sym (append_assoc reads (starts ∷ t.turns.looks) t.turns.acts)

  pub front_still : ChangeNothing front
  front_still = still_both reads (starts ∷ t.turns.looks) (quiet_still reads read) (quiet_still t.turns.looks t.turns.quiet)

  more : (e : Entry) → IsIn e t.turns.looks → IsIn e front
  more e j = in_back e reads (starts ∷ t.turns.looks) (inr j)

  -- what its rotation renames or copies was seen, a file
  pub first_seen : SawFile x.ready.log front
  first_seen = let saw = saw_one x.ready.log t.turns.looks l.way_seen.first in (saw.0, saw.1, more _ saw.2)

  pub members_seen : Shown x.naming x.stand.members front
  members_seen = shown_more x.naming x.stand.members t.turns.looks front more l.seen

  -- where it is renamed
  module _ (none : x.job ≡ None) where
    names : HasNames x
    names = any_names rules clock t.turns.looks x l

    source_seen : SawFile (source_of x) front
    source_seen = subst (λ (y : Path). SawFile y front) (sym (ap (λ (a : Option Path). source_by a x.ready.log) (not_aside x names.way none))) first_seen

    woven : Weave (IsBetween paths (rotation_by x)) (rotation_steps (rotation_by x)) (filter is_disk_change t.turns.acts)
    woven = subst (λ (j : Option Job). Weave (IsBeside (part_paths (by_of j x.aside) ++ paths) x.log) (rotation_steps (rotation_by x)) (filter is_disk_change t.turns.acts)) (sym none)
        (subst (λ (steps : List Entry). Weave (IsBeside paths x.log) steps (filter is_disk_change t.turns.acts)) (renamed_steps x names none) (rotates_beside state x t.turns.targets t.turns.acts none (t.whole x i)))

    pub rotates : RotatesAmong (paths_beside state x t.turns.targets) x.naming (rotation_by x) (reads ++ entry.Starts state clock.now rules ∷ tail)
    rotates = subst (RotatesAmong paths x.naming (rotation_by x)) (sym front_is) (among paths x.naming (rotation_by x) front t.turns.acts (ap (λ (j : Option Job). by_of j x.aside) none) front_still source_seen members_seen woven)
