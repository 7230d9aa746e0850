-- The evidence of what a dry run did in its entries, from the values that it came to.
use Rattle.std.proofs.Common.{◌≡◌, ℕ, true, List, [], ◌++◌, Option, Ok, refl, sym, subst}
use Rattle.lr_rules.specs.declared.clock.Clock.{Clock}
use Rattle.lr_rules.specs.declared.fault.Fault.{Fault}
use Rattle.lr_rules.specs.declared.path.Path.{Path}
use Rattle.lr_rules.specs.declared.rule.Rule.{Rule}
use Rattle.lr_host.specs.declared.entry.Entry.{Entry}
use Rattle.lr_state.specs.Table.{StateEntry as Row}
use Rattle.lr_plan.specs.Asked.{Asked}
use Rattle.lr_plan.specs.declared.plan.Plan.{Plan}
use Rattle.lr_state.specs.Known.{TextSaysOnly}
use Rattle.lr_looks.specs.Found.{FoundLog, paths_of}
use Rattle.lr_run.specs.InternalDry as old
use Rattle.lr_run.specs.InternalDry.{PlanFollows, Plans, Tries}
use Rattle.lr_run.specs.Saw.{Saw, ShowsStateFile, by_dir, by_none, ShowsSaw}
use Rattle.lr_run.proofs.Knowing.{is_known}

-- an empty text says an empty table
none_said : (text : List ℕ) (table : List Row) → text ≡ [] → TextSaysOnly text (Ok table) → table ≡ []
none_said text table none says = let e : Ok table ≡ Ok [] = (subst (λ (bytes : List ℕ). TextSaysOnly bytes (Ok table)) none says).0 in cc

-- a dry run that saw this
pub tries_seen : (state : Path) (rules : List Rule) (clock : Clock) (asked : Asked) (saw : Saw) (plan : Option Plan) (own : List Fault) (ts dir reads looks : List Entry) → ts ≡ dir ++ (reads ++ looks) → ShowsSaw true state rules saw dir reads looks → PlanFollows rules saw.sets (paths_of saw.kept) saw.table clock asked plan own
    → Tries state rules clock asked plan (saw.faults ++ own) ts
tries_seen state rules clock asked saw plan own ts dir reads looks joined seen follows = go seen.file
  where
    plans : Plans state rules saw.table clock asked plan (saw.faults ++ own) looks
    plans = record {
      sets = saw.sets;
      of_looks = saw.faults;
      of_plan = own;
      faults_are = refl;
      shown = seen.sets.shown;
      follows = subst (λ (kept : List FoundLog). PlanFollows rules saw.sets (paths_of kept) saw.table clock asked plan own) seen.sets.kept_are follows;
    }

    go : ShowsStateFile true state saw.text saw.stale dir reads → Tries state rules clock asked plan (saw.faults ++ own) ts
    go (by_dir s t) = old.by_state (record {
      front = dir;
      back = reads ++ looks;
      joined = joined;
      first = s;
      second = old.known t.sights (record { table = saw.table; stale = saw.stale }) (is_known state saw.text saw.table saw.stale reads t seen.says) (record { front = reads; back = looks; joined = refl; first = t.shown; second = plans });
    })
    go (by_none dry s none no_reads) = old.by_none (record {
      front = dir;
      back = reads ++ looks;
      joined = joined;
      first = s;
      second = subst (λ (us : List Entry). Plans state rules [] clock asked plan (saw.faults ++ own) (us ++ looks)) (sym no_reads)
          (subst (λ (rows : List Row). Plans state rules rows clock asked plan (saw.faults ++ own) looks) (none_said saw.text saw.table none seen.says) plans);
    })
