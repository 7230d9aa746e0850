-- A log that the looks kept: none of its names is reserved, and it meets no other log of the plan.
use Rattle.std.proofs.Common.{◌≡◌, ◌≢◌, ⊎_elim, ◌+◌, List, sym, ap, ◌∙◌, subst}
use Rattle.lr_rules.specs.declared.clock.Clock.{Clock}
use Rattle.lr_rules.specs.declared.fault.Fault.{Fault}
use Rattle.lr_rules.specs.declared.path.Path.{Path}
use Rattle.lr_rules.specs.declared.rule.Naming.{Naming}
use Rattle.lr_rules.specs.declared.rule.Rule.{Rule}
use Rattle.lr_rules.specs.Names.{Meet}
use Rattle.lr_due.specs.declared.answer.Due.{Due}
use Rattle.lr_host.specs.declared.entry.Entry.{Entry}
use Rattle.lr_host.specs.Lists.{IsIn}
use Rattle.lr_plan.specs.declared.looks.LogLook.{LogLook}
use Rattle.lr_plan.specs.declared.looks.SetLooks.{SetLooks}
use Rattle.lr_looks.specs.Choices.{kept_of}
use Rattle.lr_looks.specs.Families.{LookedLog}
use Rattle.lr_looks.specs.Found.{FoundLog}
use Rattle.lr_looks.specs.Sets.{looked_in}
use Rattle.lr_looks.specs.Shown.{ShowsLooks}
use Rattle.lr_laws_rotations.specs.Target.{Target}
use Rattle.lr_laws_looks.specs.Targets.{all_targets}
use Rattle.lr_laws_looks.proofs.Apart.{OffFound, kept_off}
use Rattle.lr_laws_looks.proofs.Coming.{Comes, comes_from, was_looked, in_looked, in_files}
use Rattle.lr_laws_looks.proofs.Elements.{in_each, pairs_two}
use Rattle.lr_laws_looks.proofs.Free.{IsFreeLog, kept_free}

module _ {reserved : List Path} (rules : List Rule) (sets : List SetLooks) (faults : List Fault) (ts : List Entry) (s : ShowsLooks reserved rules sets faults ts) (f : FoundLog) (kept : IsIn f s.kept) where
  pub kept_has_none : IsFreeLog reserved f
  kept_has_none = in_each (IsFreeLog reserved) (kept_of s.found s.keeps.choices) f (kept_free reserved s.found s.keeps.choices s.keeps.chosen) (in_files (kept_of s.found s.keeps.choices) f (subst (IsIn f) s.keeps.left_are kept)).0

  -- a log of the plan is one that was kept
  record IsKeptAs (t : Target) : Type 0 where
    found : FoundLog
    among : IsIn found s.kept
    path : found.log.path ≡ t.log
    naming : found.log.naming ≡ t.naming

  kept_as : (clock : Clock) (t : Target) → Comes clock rules sets t → IsKeptAs t
  kept_as clock t c =
      let x = looked_in (0 + c.place) c.look in
      let g = in_looked s.kept s.entries.second.families.sights x (subst (IsIn x) s.entries.second.families.looked_are (was_looked 0 c.place s.looked sets c.set c.look s.by_sets c.at_set c.among)) in
      record {
        found = g.0;
        among = g.1;
        path = ap (λ (y : LookedLog). y.path) (sym g.2.1) ∙ ap (λ (u : Target). u.log) (sym c.is);
        naming = ap (λ (y : LookedLog). y.naming) (sym g.2.1) ∙ ap (λ (u : Target). u.naming) (sym c.is);
      }

  pub kept_meets_none : (clock : Clock) (decide : Rule → LogLook → Due) (t : Target) → IsIn t (all_targets clock decide rules sets) → t.log ≢ f.log.path → Meet t.log t.naming f.log.path f.log.naming → ⊥
  kept_meets_none clock decide t i ne m = go (kept_as clock t (comes_from clock decide rules sets t i))
    where
      go : IsKeptAs t → ⊥
      go k = ⊎_elim (λ same. ne (sym k.path ∙ ap (λ (g : FoundLog). g.log.path) same)) (λ off. ⊎_elim (λ (a : OffFound k.found f). a.1 met) (λ (b : OffFound f k.found). b.2 met) off)
          (pairs_two OffFound s.kept (kept_off rules sets faults ts s) k.found f k.among kept)
        where
          met : Meet k.found.log.path k.found.log.naming f.log.path f.log.naming
          met = subst (λ (p : Path). Meet p k.found.log.naming f.log.path f.log.naming) (sym k.path) (subst (λ (n : Naming). Meet t.log n f.log.path f.log.naming) (sym k.naming) m)
