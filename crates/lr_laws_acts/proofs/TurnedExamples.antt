-- A log that is unlinked behind its copy, and one that stays where it is set aside.
use Rattle.std.proofs.Common.{◌≡◌, refl, subst, arith, List}
use Rattle.lr_rules.specs.declared.path.Path.{Path}
use Rattle.lr_rules.specs.declared.rule.Naming.{Naming}
use Rattle.lr_rules.proofs.Beside.{beside_other}
use Rattle.lr_host.specs.declared.thing.Thing.TheVariants as thing
use Rattle.lr_host.specs.Opening.{IsJournal}
use Rattle.lr_host.specs.World.{Opens, world, names}
use Rattle.lr_laws.specs.Chain.{log, found}
use Rattle.lr_laws.proofs.Example.{found_valid}
use Rattle.lr_copy.specs.declared.job.Job.{Job}
use Rattle.lr_laws_family.specs.CopiesWorked.{job}
use Rattle.lr_laws_family.proofs.CopiesExamples.{name_journal, paths}
use Rattle.lr_laws_family.specs.Rotation.{Rotation, By, Copy, Aside as SetsAside}
use Rattle.lr_laws_family.specs.Turned.{IsCopied, IsSetAside, IsBrought, IsTurned}
use Rattle.lr_laws_acts.specs.TurnedWorked.{unlinked, aside, left_aside}

-- ---- unlinked

pub unlinked_journal : IsJournal unlinked
unlinked_journal = ((name_journal, refl), (0, refl))

pub unlinked_lost : (others : List Path) (n : Naming) (r : Rotation) → r.by ≡ Copy job → r.source ≡ job.from → IsTurned others n r (Opens found) unlinked → ⊥
unlinked_lost others n r by_copy from t =
    let c : IsCopied job r t.first (Opens found) unlinked t.file t.new = subst (λ (by : By). IsBrought by others r t.first (Opens found) unlinked t.file t.new) by_copy t.brought in
    let is : thing.Nothing ≡ thing.File t.file = subst (λ (x : Path). names (world unlinked) x ≡ thing.File t.file) from c.source_now in cc

-- ---- left where it is set aside

pub left_journal : IsJournal left_aside
left_journal = ((((((((found_valid, ((0, refl), λ e. cc, λ e. cc, refl, beside_other log)), (refl, refl)), record { part = refl; ended = λ e. absurd (cc) }), (3, refl)), record { part = refl; ended = λ e. omega arith }), (3, refl)), ((3, refl), λ e. cc, λ e. cc, refl, paths.part_not_to)), refl)

pub left_stays : (others : List Path) (n : Naming) (r : Rotation) (j : Job) → r.by ≡ SetsAside j → r.source ≡ aside → IsTurned others n r (Opens found) left_aside → ⊥
left_stays others n r j by_aside from t =
    let c : IsSetAside j others r t.first (Opens found) left_aside t.file t.new = subst (λ (by : By). IsBrought by others r t.first (Opens found) left_aside t.file t.new) by_aside t.brought in
    let is : thing.File 0 ≡ thing.Nothing = subst (λ (x : Path). names (world left_aside) x ≡ thing.Nothing) from c.source_now in cc
