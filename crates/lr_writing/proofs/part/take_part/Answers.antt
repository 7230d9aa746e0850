use Rattle.std.proofs.Common.{refl, inl, inr, subst, sym, rules, Some}
use Rattle.lr_rules.specs.declared.fault.CallKind.TheVariants as call
use Rattle.lr_rules.specs.declared.fault.Fault.TheVariants as fault
use Rattle.lr_host.specs.declared.entry.Entry.TheVariants as entry
use Rattle.lr_host.specs.Told.{Each}
use Rattle.lr_host.proofs.Left.{left_as}
use Rattle.lr_plan.specs.declared.step.Step.TheVariants as step
use Rattle.lr_acts.proofs.Taking.{taken_now}
use Rattle.lr_writing.specs.Writes.{IsShort}
use Rattle.lr_writing.proofs.Coming.{comes_one, comes_not, comes_failed}
use Rattle.lr_writing.proofs.part.take_part.Goals as goal

pub returns-in-Ok-true : goal.returns-in-Ok-true
returns-in-Ok-true g c = let x = c.args.part.now in comes_one (step.Takes x (Some 416)) (entry.Makes x (Some 416)) refl (λ ts t. t) tt (rw c.in-Ok-true.field-0-test at c.in-Ok-true.ensures.told) c.in-Ok-true.ensures.counts

pub returns-in-Ok-false : goal.returns-in-Ok-false
returns-in-Ok-false g c = let x = c.args.part.now in
    comes_failed (step.Takes x (Some 416)) (fault.Taken x) (left_as (rw c.in-Ok-false.field-0-test at c.in-Ok-false.ensures.told) (λ ts t. (inr (refl, t), subst (Each IsShort) (sym t) tt)))
    (taken_now x (rw c.in-Ok-false.field-0-test at c.in-Ok-false.ensures.told) (c.make_new.ensures.named (search rules))) c.in-Ok-false.ensures.counts

pub returns-in-Err : goal.returns-in-Err
returns-in-Err g c = let x = c.args.part.now in comes_not (step.Takes x (Some 416)) (fault.Call call.Make x) (entry.Makes x (Some 416)) (λ ts t. inl (refl, t)) tt c.in-Err.ensures.told c.in-Err.ensures.cause c.in-Err.ensures.counts
