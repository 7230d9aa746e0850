-- The rotation of a log in two: up to its final path or to where it waits for its copy, and what follows the scripts.
use Rattle.std.proofs.Common.{◌≡◌, refl, sym, ◌∙◌, ap, Option, Some, None, List, [], ◌∷◌, ◌++◌, map, append_assoc, append-nil}
use Rattle.lr_rules.specs.declared.path.Path.{Path}
use Rattle.lr_host.specs.declared.entry.Entry.{Entry}
use Rattle.lr_host.specs.declared.entry.Entry.TheVariants as entry
use Rattle.lr_copy.specs.declared.job.Job.{Job}
use Rattle.lr_copy.specs.Copying.{clearing}
use Rattle.lr_chain.specs.declared.ready.Ready.{Ready}
use Rattle.lr_chain.specs.Ready.{move_step, dir_calls}
use Rattle.lr_laws_rotations.specs.Calls.{copy_calls}
use Rattle.lr_laws_rotations.specs.Steps.{unlinks}
use Rattle.lr_laws_rotations.specs.TargetCalls.{transfer_calls, calls_of}
use Rattle.lr_laws_rotations.specs.Target.{Target, transfer_of, target_entries}

-- ---- its changes of names

-- how the log comes to its final path, or to where it waits
abbrev pub own_way : Ready → Option Job → Option Path → List Entry
own_way ready None aside = entry.Renames ready.log ready.target ∷ []
own_way ready (Some job) None = clearing job ++ entry.Renames job.part job.to ∷ []
own_way ready (Some job) (Some path) = entry.Renames ready.log path ∷ []

-- what waited gets its copy, and goes
abbrev pub letting_go : Option Job → Option Path → List Entry
letting_go None aside = []
letting_go (Some job) None = []
letting_go (Some job) (Some path) = clearing job ++ entry.Renames job.part job.to ∷ entry.Unlinks path ∷ []

transfer_halves : (ready : Ready) (j : Option Job) (a : Option Path) → own_way ready j a ++ letting_go j a ≡ transfer_of ready j a
transfer_halves ready None a = refl
transfer_halves ready (Some job) None = append-nil (clearing job ++ entry.Renames job.part job.to ∷ [])
transfer_halves ready (Some job) (Some path) = refl

abbrev pub front_of : Target → List Entry
front_of t = unlinks t.ready.leftovers ++ (map move_step t.ready.moves ++ own_way t.ready t.job t.aside)

abbrev pub back_of : Target → List Entry
back_of t = letting_go t.job t.aside ++ unlinks t.ready.retire

-- two parts that stand side by side, by what both are
both_on : (first last whole rest : List Entry) → first ++ last ≡ whole → first ++ (last ++ rest) ≡ whole ++ rest
both_on first last whole rest e = sym (append_assoc first last rest) ∙ ap (λ es. es ++ rest) e

pub halves : (t : Target) → front_of t ++ back_of t ≡ target_entries t
halves t =
    append_assoc (unlinks t.ready.leftovers) (map move_step t.ready.moves ++ own_way t.ready t.job t.aside) (back_of t)
    ∙ ap (λ es. unlinks t.ready.leftovers ++ es) (append_assoc (map move_step t.ready.moves) (own_way t.ready t.job t.aside) (back_of t)
    ∙ ap (λ es. map move_step t.ready.moves ++ es) (both_on (own_way t.ready t.job t.aside) (letting_go t.job t.aside) (transfer_of t.ready t.job t.aside) (unlinks t.ready.retire) (transfer_halves t.ready t.job t.aside)))

-- ---- its calls

abbrev pub own_calls : Ready → Option Job → Option Path → List Entry
own_calls ready None aside = entry.Renames ready.log ready.target ∷ []
own_calls ready (Some job) None = copy_calls job
own_calls ready (Some job) (Some path) = entry.SyncsDir job.dir ∷ entry.Renames ready.log path ∷ []

abbrev pub letting_calls : Option Job → Option Path → List Entry
letting_calls None aside = []
letting_calls (Some job) None = []
letting_calls (Some job) (Some path) = copy_calls job ++ entry.Unlinks path ∷ []

transfer_call_halves : (ready : Ready) (j : Option Job) (a : Option Path) → own_calls ready j a ++ letting_calls j a ≡ transfer_calls ready j a
transfer_call_halves ready None a = refl
transfer_call_halves ready (Some job) None = append-nil (copy_calls job)
transfer_call_halves ready (Some job) (Some path) = refl

abbrev pub front_calls : Target → List Entry
front_calls t = unlinks t.ready.leftovers ++ (dir_calls t.ready.dir ++ (map move_step t.ready.moves ++ own_calls t.ready t.job t.aside))

-- behind the copy of what waited the final path can be read, and then the removals follow
abbrev pub removing_calls : Target → List Entry
removing_calls t = entry.Reads t.ready.target 0 [] ∷ unlinks t.ready.retire

abbrev pub back_calls : Target → List Entry
back_calls t = letting_calls t.job t.aside ++ removing_calls t

pub call_halves : (t : Target) → front_calls t ++ back_calls t ≡ calls_of t
call_halves t =
    append_assoc (unlinks t.ready.leftovers) (dir_calls t.ready.dir ++ (map move_step t.ready.moves ++ own_calls t.ready t.job t.aside)) (back_calls t)
    ∙ ap (λ es. unlinks t.ready.leftovers ++ es) (append_assoc (dir_calls t.ready.dir) (map move_step t.ready.moves ++ own_calls t.ready t.job t.aside) (back_calls t)
    ∙ ap (λ es. dir_calls t.ready.dir ++ es) (append_assoc (map move_step t.ready.moves) (own_calls t.ready t.job t.aside) (back_calls t)
    ∙ ap (λ es. map move_step t.ready.moves ++ es) (both_on (own_calls t.ready t.job t.aside) (letting_calls t.job t.aside) (transfer_calls t.ready t.job t.aside) (removing_calls t) (transfer_call_halves t.ready t.job t.aside))))
