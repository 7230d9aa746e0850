-- Two runs that left the same entries met the same faults.
use Rattle.std.proofs.Common.{◌≡◌, false, Option, List, [], ◌∷◌, ◌++◌, length, Ok, refl, sym, ap, ◌∙◌, arith}
use Rattle.std.proofs.lemmas.List.{append_cancel_right, append-nil}
use Rattle.lr_rules.specs.declared.clock.Clock.{Clock}
use Rattle.lr_rules.specs.declared.fault.Fault.{Fault}
use Rattle.lr_rules.specs.declared.path.Path.{Path}
use Rattle.lr_rules.specs.declared.rules.Rules.{Rules}
use Rattle.lr_rules.specs.Path.{parent_of}
use Rattle.lr_rules.proofs.Heads.{tails}
use Rattle.lr_host.specs.declared.entry.Entry.{Entry}
use Rattle.lr_host.specs.declared.entry.Entry.TheVariants as entry
use Rattle.lr_host.specs.Looks.{Sees, IsDir, IsNotDir}
use Rattle.lr_host.specs.Counted.{calls_in}
use Rattle.lr_plan.specs.Asked.{Asked}
use Rattle.lr_plan.specs.declared.plan.Plan.{Plan}
use Rattle.lr_host.proofs.Counts.{calls_on}
use Rattle.lr_run.specs.declared.answer.Ran.{Ran}
use Rattle.lr_run.specs.InternalRuns.{Runs, no_directory, not_seen, not_begun, began}
use Rattle.lr_run.specs.Ran.{RunEnds}
use Rattle.lr_run.specs.Work.{Work}
use Rattle.lr_run.proofs.Evidence.{by_work}
use Rattle.lr_laws_fixed.proofs.Called.{one_called}
use Rattle.lr_laws_fixed.proofs.Peeled.{one_look}
use Rattle.lr_laws_fixed.proofs.Works.{works_one}

-- a look alone isn't a look with a start behind it
alone_or_begun : (path : Path) (state : Path) (clock : Clock) (rules : Rules) (rest before ts : List Entry) → Sees path IsNotDir ts → Sees path IsDir before → ts ≡ before ++ (entry.Starts state clock.now rules ∷ rest) → ⊥
alone_or_begun path state clock rules rest before ts s b e = ends (one_look path path ts before [] (entry.Starts state clock.now rules ∷ rest) s b (append-nil ts ∙ e)).rest_is
  where
    ends : [] ≡ entry.Starts state clock.now rules ∷ rest → ⊥
    ends q = let n = ap (λ (l : List Entry). length l) q in omega (arith, n)

-- what lies between the starts and the ends of the same entries is the same
between_same : (path : Path) (state : Path) (clock : Clock) (rules : Rules) (before others xs ys ts : List Entry) → Sees path IsDir before → Sees path IsDir others
    → ts ≡ before ++ (entry.Starts state clock.now rules ∷ (xs ++ entry.Ends ∷ [])) → ts ≡ others ++ (entry.Starts state clock.now rules ∷ (ys ++ entry.Ends ∷ [])) → xs ≡ ys
between_same path state clock rules before others xs ys ts s t e f = append_cancel_right xs ys (entry.Ends ∷ []) (tails _ _ (xs ++ entry.Ends ∷ []) (ys ++ entry.Ends ∷ [])
    (one_look path path before others (entry.Starts state clock.now rules ∷ (xs ++ entry.Ends ∷ [])) (entry.Starts state clock.now rules ∷ (ys ++ entry.Ends ∷ [])) s t (sym e ∙ f)).rest_is)

-- two runs that left the same entries, and of which no call failed, met the same faults
pub runs_one : (state : Path) (asked : Asked) (clock : Clock) (rules : Rules) (plan another : Option Plan) (own more : List Fault) (ts : List Entry) → Runs state asked clock rules plan own ts → Runs state asked clock rules another more ts → calls_in own ≡ 0 → calls_in more ≡ 0 → own ≡ more
runs_one state asked clock rules plan another own more ts (not_seen lost e s) r c d = absurd (one_called own _ e refl c)
runs_one state asked clock rules plan another own more ts (not_begun lost e s) r c d = absurd (one_called own _ e refl c)
runs_one state asked clock rules plan another own more ts (no_directory lost e s) (not_seen gone f t) c d = absurd (one_called more _ f refl d)
runs_one state asked clock rules plan another own more ts (no_directory lost e s) (not_begun gone f t) c d = absurd (one_called more _ f refl d)
runs_one state asked clock rules plan another own more ts (no_directory lost e s) (no_directory gone f t) c d = e ∙ sym f
runs_one state asked clock rules plan another own more ts (no_directory lost e s) (began j) c d = absurd (alone_or_begun (parent_of state) state clock rules (j.between ++ entry.Ends ∷ []) j.before ts s j.directory j.entries)
runs_one state asked clock rules plan another own more ts (began i) (not_seen gone f t) c d = absurd (one_called more _ f refl d)
runs_one state asked clock rules plan another own more ts (began i) (not_begun gone f t) c d = absurd (one_called more _ f refl d)
runs_one state asked clock rules plan another own more ts (began i) (no_directory gone f t) c d = absurd (alone_or_begun (parent_of state) state clock rules (i.between ++ entry.Ends ∷ []) i.before ts t i.directory i.entries)
runs_one state asked clock rules plan another own more ts (began i) (began j) c d = works_one state rules.sets clock asked own more i.between j.between
    (between_same (parent_of state) state clock rules i.before j.before i.between j.between ts i.directory j.directory i.entries j.entries) c d rules.limits i.within j.within

-- so did two answers
pub ran_one : (state : Path) (asked : Asked) (clock : Clock) (rules : Rules) (earlier : List Fault) (one other : Ran) (work others : Option Work) (ts : List Entry) → RunEnds false state rules clock asked earlier (Ok one) work ts → RunEnds false state rules clock asked earlier (Ok other) others ts
    → calls_in one.faults.items ≡ 0 → calls_in other.faults.items ≡ 0 → one.faults.items ≡ other.faults.items
ran_one state asked clock rules earlier one other work others ts r s c d =
    let a = by_work state rules clock asked earlier ts (Ok one) work r in
    let b = by_work state rules clock asked earlier ts (Ok other) others s in
    a.1 ∙ (ap (λ fs. earlier ++ fs) (runs_one state asked clock rules one.plan other.plan a.0 b.0 ts a.2 b.2 (own_none one a.0 a.1 c) (own_none other b.0 b.1 d)) ∙ sym b.1)
  where
    own_none : (ran : Ran) (own : List Fault) → ran.faults.items ≡ earlier ++ own → calls_in ran.faults.items ≡ 0 → calls_in own ≡ 0
    own_none ran own e z = let k = calls_on earlier own in let n : calls_in (earlier ++ own) ≡ 0 = sym (ap calls_in e) ∙ z in omega (arith, k, n)
