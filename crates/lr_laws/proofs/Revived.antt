-- The worked examples over two runs are steady, and one in which the machine stops is safe.
use Rattle.std.proofs.Common.{◌≡◌, inl, arith, refl, subst, Some, None, [], ◌∷◌, pos}
use Rattle.std.specs.Prelude.{codes}
use Rattle.lr_rules.specs.declared.path.Path.{Path}
use Rattle.lr_rules.specs.declared.rule.Way.TheVariants.{Rename}
use Rattle.lr_rules.specs.declared.civil.Moment.{Moment}
use Rattle.lr_host.specs.declared.entry.Entry.TheVariants.{Starts, Ends, Attach, Feed, Look, Renames, Unlinks, Cut}
use Rattle.lr_host.specs.World.{Past, Opens, ◌▸◌, world}
use Rattle.lr_host.specs.Fits.{Fits}
use Rattle.lr_host.specs.Opening.{IsJournal}
use Rattle.lr_host.specs.Sets.{LogSet}
use Rattle.lr_host.specs.Safe.{IsSafe}
use Rattle.lr_host.specs.Steady.{IsSteady, AttachesNoMember}
use Rattle.lr_laws.specs.Chain.{log, first, second, third, found, rules, seen, IsOfChain, begins, resumed, failed_without_effect, failed_with_effect, broken_off, revived}
use Rattle.lr_laws.proofs.Example.{IsGood, IsReadyGood, key_first, key_second, key_third, moved_on, turned_on, gone_on, begun_on, ended_on, opens, numbered, steady_on}
use Rattle.lr_laws.proofs.Stated.{quiet_safe, writers_safe, cut_safe, ready_first}

pub resumed_steady : (s : LogSet) (now again : Moment) → IsOfChain s → IsSteady s (resumed now again)
resumed_steady s now again c = steady_on s c _ Ends refl refl tt (steady_on s c _ (Renames log first) refl refl tt (steady_on s c _ (Renames first second) refl refl tt (steady_on s c _ (Unlinks third) refl refl tt (steady_on s c _ (Starts (codes "/s/status") again rules) refl refl tt (steady_on s c _ (Renames second third) refl refl tt (steady_on s c _ (Starts (codes "/s/status") now rules) refl refl tt tt))))))

pub without_effect_steady : (s : LogSet) (now again : Moment) → IsOfChain s → IsSteady s (failed_without_effect now again)
without_effect_steady s now again c = steady_on s c _ Ends refl refl tt (steady_on s c _ (Renames log first) refl refl tt (steady_on s c _ (Renames first second) refl refl tt (steady_on s c _ (Unlinks third) refl refl tt (steady_on s c _ (Starts (codes "/s/status") again rules) refl refl tt (steady_on s c _ Ends refl refl tt (steady_on s c _ (Renames second third) refl refl tt (steady_on s c _ (Starts (codes "/s/status") now rules) refl refl tt tt)))))))

pub with_effect_steady : (s : LogSet) (now again : Moment) → IsOfChain s → IsSteady s (failed_with_effect now again)
with_effect_steady s now again c = steady_on s c _ Ends refl refl tt (steady_on s c _ (Unlinks third) refl refl tt (steady_on s c _ (Renames log first) refl refl tt (steady_on s c _ (Renames second third) refl refl tt (steady_on s c _ (Unlinks third) refl refl tt (steady_on s c _ (Starts (codes "/s/status") again rules) refl refl tt (steady_on s c _ Ends refl refl tt (steady_on s c _ (Renames first second) refl refl tt (steady_on s c _ (Renames second third) refl refl tt (steady_on s c _ (Starts (codes "/s/status") now rules) refl refl tt tt)))))))))

-- ---- the machine stops in the chain

-- the writer is attached to the log, which is no member
no_member : (s : LogSet) → IsOfChain s → AttachesNoMember s (Attach 1 log (pos 0))
no_member s c = subst (λ (x : Path). s.key x ≡ None) c.log_is s.log_apart

abbrev attached : Moment → Past
attached now = begins (Opens found) now ▸ Attach 1 log (pos 0)

abbrev looked : Moment → Past
looked now = attached now ▸ Look second (Some seen)

attached_steady : (s : LogSet) (now : Moment) → IsOfChain s → IsSteady s (attached now)
attached_steady s now c = steady_on s c _ (Attach 1 log (pos 0)) refl refl (no_member s c) (steady_on s c _ (Starts (codes "/s/status") now rules) refl refl tt tt)

fed_steady : (s : LogSet) (now : Moment) → IsOfChain s → IsSteady s (looked now ▸ Renames second third ▸ Feed 1 (codes "D") (pos 9))
fed_steady s now c = steady_on s c _ (Feed 1 (codes "D") (pos 9)) refl refl tt (steady_on s c _ (Renames second third) refl refl tt (steady_on s c _ (Look second (Some seen)) refl refl tt (attached_steady s now c)))

broken_off_steady : (s : LogSet) (now : Moment) → IsOfChain s → IsSteady s (broken_off now)
broken_off_steady s now c = steady_on s c _ (Cut [] ((0, 1) ∷ [])) refl refl tt (fed_steady s now c)

pub revived_steady : (s : LogSet) (now again : Moment) → IsOfChain s → IsSteady s (revived now again)
revived_steady s now again c = steady_on s c _ Ends refl refl tt (steady_on s c _ (Unlinks third) refl refl tt (steady_on s c _ (Renames log first) refl refl tt (steady_on s c _ (Renames first second) refl refl tt
    (steady_on s c _ (Renames second third) refl refl tt (steady_on s c _ (Starts (codes "/s/status") again rules) refl refl tt (broken_off_steady s now c))))))

was_attached : (s : LogSet) (now : Moment) → IsOfChain s → IsGood s (attached now)
was_attached s now c = record { journal = journal; safe = writers_safe Rename s (begins (Opens found) now) (Attach 1 log (pos 0)) journal begun.good.safe tt (attached_steady s now c) }
  where
    begun : IsReadyGood s (begins (Opens found) now) 2
    begun = begun_on s c (Opens found) now (opens s) refl

    journal : IsJournal (attached now)
    journal = (begun.good.journal, (inl (0, refl), refl))

was_looked : (s : LogSet) (now : Moment) → IsOfChain s → IsGood s (looked now)
was_looked s now c = record { journal = journal; safe = quiet_safe s (attached now) (Look second (Some seen)) journal before.safe (tt, refl) }
  where
    before : IsGood s (attached now)
    before = was_attached s now c

    journal : IsJournal (looked now)
    journal = (before.journal, (refl, refl, refl, refl))

was_moved : (s : LogSet) (now : Moment) → IsOfChain s → IsGood s (looked now ▸ Renames second third)
was_moved s now c = (moved_on s c (looked now) second third 1 2 2 ready (omega arith) (key_second s c) (key_third s c) refl refl refl refl).good
  where
    before : IsGood s (looked now)
    before = was_looked s now c

    ready : IsReadyGood s (looked now) 2
    ready = record { good = before; ready = ready_first s (looked now) 2 before.safe (numbered s c) refl }

was_fed : (s : LogSet) (now : Moment) → IsOfChain s → IsGood s (looked now ▸ Renames second third ▸ Feed 1 (codes "D") (pos 9))
was_fed s now c = record { journal = journal; safe = writers_safe Rename s (looked now ▸ Renames second third) (Feed 1 (codes "D") (pos 9)) journal before.safe tt (fed_steady s now c) }
  where
    before : IsGood s (looked now ▸ Renames second third)
    before = was_moved s now c

    journal : IsJournal (looked now ▸ Renames second third ▸ Feed 1 (codes "D") (pos 9))
    journal = (before.journal, (0, refl))

was_broken_off : (s : LogSet) (now : Moment) → IsOfChain s → IsGood s (broken_off now)
was_broken_off s now c = record { journal = (before.journal, fits); safe = cut_safe s (looked now ▸ Renames second third ▸ Feed 1 (codes "D") (pos 9)) (Cut [] ((0, 1) ∷ [])) before.journal before.safe tt fits }
  where
    before : IsGood s (looked now ▸ Renames second third ▸ Feed 1 (codes "D") (pos 9))
    before = was_fed s now c

    fits : Fits (world (looked now ▸ Renames second third ▸ Feed 1 (codes "D") (pos 9))) (Cut [] ((0, 1) ∷ []))
    fits = record { places = omega arith; closed = (tt, λ listed. absurd (cc)); apart = (refl, tt); within = ((log, refl), omega arith, omega arith, tt) }

pub revived_safe : (s : LogSet) (now again : Moment) → IsOfChain s → IsJournal (revived now again) × IsSafe s (revived now again)
revived_safe s now again c = (done.journal, done.safe)
  where
    one : IsReadyGood s (begins (broken_off now) again ▸ Renames second third) 1
    one = moved_on s c (begins (broken_off now) again) second third 1 2 2 (begun_on s c (broken_off now) again (was_broken_off s now c) refl) (omega arith) (key_second s c) (key_third s c) refl refl refl refl

    both : IsReadyGood s (begins (broken_off now) again ▸ Renames second third ▸ Renames first second) 0
    both = moved_on s c _ first second 0 1 1 one (omega arith) (key_first s c) (key_second s c) refl refl refl refl

    done : IsGood s (revived now again)
    done = ended_on s _ (gone_on s c _ 2 refl (turned_on s c _ 0 both.good refl refl refl) refl) refl
