-- The run over two logs: as far as it came, whole, and behind a failed step of the one log.
use Rattle.std.proofs.Common.{◌≡◌, inl, inr, refl, sym, ◌∙◌, ap, subst, Some, List, [], ◌∷◌, ◌++◌, append_assoc, codes}
use Rattle.lr_rules.specs.declared.clock.Clock.{Clock}
use Rattle.lr_host.specs.declared.entry.Entry.{Entry}
use Rattle.lr_host.specs.declared.entry.Entry.TheVariants.{Starts, Ends, Look, Renames, Unlinks}
use Rattle.lr_laws_family.specs.Weave.{IsFirstOf}
use Rattle.lr_laws_rotations.specs.Runs.{AllTurnsBy, AllTurnedBy, started, IsWholeRunBy}
use Rattle.lr_laws_rotations.specs.Logs.{state, rules, directory, looks, a_log, a_first, a_second, a_third, a_target, b_target}
use Rattle.lr_laws_rotations.specs.TwoLogs.{a_steps, b_steps, steps, saves, two_logs_run}
use Rattle.lr_laws_rotations.proofs.Both.{FirstOfBoth, first_of_both, all_first, both_turn, both_turned}
use Rattle.lr_laws_rotations.proofs.Seen.{both_seen, looks_quiet, logs_differ}

-- a first part of the one log's steps, and then one of the other's
turns : (clock : Clock) (us vs : List Entry) → IsFirstOf a_steps us → IsFirstOf b_steps vs → AllTurnsBy state clock rules (looks ++ (us ++ (vs ++ Ends ∷ [])))
turns clock us vs first second = both_turn state clock rules looks a_target b_target logs_differ looks_quiet (both_seen clock) us vs (Ends ∷ []) first second tt

turned : (clock : Clock) (us vs made : List Entry) → made ≡ us ++ vs → IsFirstOf a_steps us → IsFirstOf b_steps vs → AllTurnsBy state clock rules (looks ++ (made ++ Ends ∷ []))
turned clock us vs made joined first second =
    subst (λ ts. AllTurnsBy state clock rules (looks ++ ts)) (sym (ap (λ ts. ts ++ Ends ∷ []) joined ∙ append_assoc us vs (Ends ∷ []))) (turns clock us vs first second)

run : (clock : Clock) (made : List Entry) → AllTurnsBy state clock rules (looks ++ (made ++ Ends ∷ [])) → IsWholeRunBy clock (two_logs_run clock made)
run clock made t = record {
  front = Look (codes "/s") (Some directory) ∷ [];
  rest = Starts state clock.now rules ∷ (looks ++ (made ++ Ends ∷ []));
  joined = refl;
  quiet = ((tt, refl), tt);
  goes_on = started state rules (looks ++ (made ++ Ends ∷ [])) refl t;
}

pub any_part : (clock : Clock) (made rest : List Entry) → steps ≡ made ++ rest → IsWholeRunBy clock (two_logs_run clock made)
any_part clock made rest e = let r : FirstOfBoth a_steps b_steps made = first_of_both a_steps b_steps made rest e in run clock made (turned clock r.front r.back made r.joined r.first r.second)

pub one_of_two : (clock : Clock) (made rest : List Entry) → a_steps ≡ made ++ rest → IsWholeRunBy clock (two_logs_run clock (made ++ b_steps))
one_of_two clock made rest e = run clock (made ++ b_steps) (turned clock made b_steps (made ++ b_steps) refl (rest, e) (all_first b_steps))

pub failed : (clock : Clock) → IsWholeRunBy clock (two_logs_run clock (Renames a_second a_third ∷ b_steps))
failed clock = one_of_two clock (Renames a_second a_third ∷ []) (Renames a_first a_second ∷ Renames a_log a_first ∷ Unlinks a_third ∷ []) refl

pub alone : (clock : Clock) → (t : AllTurnedBy state clock rules (looks ++ (steps ++ Ends ∷ []))) × (t.turns.targets ≡ a_target ∷ b_target ∷ [])
alone clock = both_turned state clock rules looks a_target b_target logs_differ looks_quiet (both_seen clock) a_steps b_steps (Ends ∷ []) refl refl tt

pub saved : (clock : Clock) → (t : AllTurnedBy state clock rules (looks ++ (steps ++ (saves ++ Ends ∷ [])))) × (t.turns.targets ≡ a_target ∷ b_target ∷ [])
saved clock = both_turned state clock rules looks a_target b_target logs_differ looks_quiet (both_seen clock) a_steps b_steps (saves ++ Ends ∷ []) refl refl (inr refl, (inr refl, ((inr refl, inl refl), tt)))
