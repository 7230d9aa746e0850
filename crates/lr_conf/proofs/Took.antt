-- How lines go on behind one that was taken in.
use Rattle.std.proofs.Common.{◌≡◌, ℕ, List, [], ◌∷◌, ◌++◌, Option, Some, None, Result, Ok, Err, ap, sym, ◌∙◌}
use Rattle.std.specs.Prelude.{MatchOption}
use Rattle.std.proofs.lemmas.List.{append_assoc}
use Rattle.lr_rules.specs.declared.path.Path.{Path}
use Rattle.lr_rules.specs.declared.fault.ConfKind.{ConfKind}
use Rattle.lr_rules.specs.declared.fault.Fault.{Fault}
use Rattle.lr_rules.specs.declared.fault.Notice.{Notice}
use Rattle.lr_rules.specs.declared.rule.Rule.{Rule}
use Rattle.lr_conf.specs.declared.draft.Draft.{Draft}
use Rattle.lr_conf.specs.declared.stop.Include.{Include}
use Rattle.lr_conf.specs.declared.stop.LayerStop.{LayerStop}
use Rattle.lr_conf.specs.declared.stop.LayerStop.TheVariants as stop
use Rattle.lr_conf.specs.Meaning.{ConfLine, End, Meaning, ◌and◌, only_faults, conf}
use Rattle.lr_conf.specs.Internal.Draft.{gives, run, kept, state_of, coming_from, Stepped, Unchanged, Steps, TookIn, EndsFile}

abbrev all_of : List Rule → List Notice → List Fault → Meaning
all_of rules notices faults = record { rules = rules; notices = notices; faults = faults }

-- what a line gives stands behind what was kept, and its faults are told
joined : (old new : List Rule) (was is : List Notice) (faults : List Fault) (g m : Meaning) → new ≡ old ++ g.rules → is ≡ was ++ g.notices → g.faults ≡ faults
    → (kept old was and (g and m)) ≡ (only_faults faults and (kept new is and m))
joined old new was is faults g m r n f =
    ap (λ rs. all_of rs (was ++ (g.notices ++ m.notices)) (g.faults ++ m.faults)) (sym (append_assoc old g.rules m.rules) ∙ ap (λ rs. rs ++ m.rules) (sym r))
    ∙ ap (λ ns. all_of (new ++ m.rules) ns (g.faults ++ m.faults)) (sym (append_assoc was g.notices m.notices) ∙ ap (λ ns. ns ++ m.notices) (sym n))
    ∙ ap (λ fs. all_of (new ++ m.rules) (is ++ m.notices) (fs ++ m.faults)) f

pub took_step : (old new : Draft) (e : ConfLine) (faults : List Fault) (includes : List Include) → Stepped old new e faults includes → (lines : List ConfLine) → coming_from old (e ∷ lines) ≡ (only_faults faults and coming_from new lines)
took_step old new e faults includes s lines =
    ap (λ t. kept old.rules.items old.notices.items and (gives old.place (state_of old) e and run t lines)) (sym s.state)
    ∙ joined old.rules.items new.rules.items old.notices.items new.notices.items faults (gives old.place (state_of old) e) (run (state_of new) lines) s.rules s.notices s.faults_are

took_same : (old new : Draft) → Unchanged old new → (lines : List ConfLine) → coming_from new lines ≡ coming_from old lines
took_same old new u lines =
    ap (λ rules. kept rules new.notices.items and run (state_of new) lines) u.rules
    ∙ ap (λ notices. kept old.rules.items notices and run (state_of new) lines) u.notices
    ∙ ap (λ t. kept old.rules.items old.notices.items and run t lines) u.state

pub took_in : (old new : Draft) (file : Path) (e : ConfLine) (r : Result (Option Include) LayerStop) → Steps old new file e r → TookIn old new file e r
took_in old new file e (Ok i) s = took_step old new e _ _ s
took_in old new file e (Err stop.Memory) s = took_same old new s
took_in old new file e (Err (stop.Conf at k)) s = took_step old new e _ _ s
took_in old new file e (Err (stop.NoBraceAnd first at k)) s = took_step old new e _ _ s
took_in old new file e (Err (stop.NoBraceThen first i)) s = took_step old new e _ _ s

pub ended : (old new : Draft) (file : Path) (r : Option (ℕ × ConfKind)) → EndsFile old new file r
    → MatchOption r
    ((lines : List ConfLine) → coming_from old (End file ∷ lines) ≡ coming_from new lines)
    (λ r. (lines : List ConfLine) → coming_from old (End file ∷ lines) ≡ (only_faults (conf file r.1 r.0 ∷ []) and coming_from new lines))
ended old new file None s = took_step old new (End file) [] [] s
ended old new file (Some r) s = took_step old new (End file) (conf file r.1 r.0 ∷ []) [] s
