-- Where the looks of a run stand among all entries of a call.
use Rattle.std.proofs.Common.{◌≡◌, Bool, true, false, List, [], ◌∷◌, ◌++◌, reverse, append_assoc, append-nil, sym, ◌∙◌, ap}
use Rattle.std.proofs.lemmas.List.{reverse-append, reverse-reverse}
use Rattle.lr_rules.specs.declared.clock.Clock.{Clock}
use Rattle.lr_rules.specs.declared.path.Path.{Path}
use Rattle.lr_rules.specs.declared.rules.Rules.{Rules}
use Rattle.lr_host.specs.declared.entry.Entry.{Entry}
use Rattle.lr_host.specs.declared.entry.Entry.TheVariants.{Starts, Ends}
use Rattle.lr_host.specs.Told.{Made}
use Rattle.lr_host.specs.World.{Past}
use Rattle.lr_host.proofs.Made.{Cut, cut}
use Rattle.lr_run.specs.Work.{Work, run_entries, first_entries}

-- Two moments between two pasts: behind the first of these entries, and behind those that come next.
pub record Looking (p q : Past) (front seen later : List Entry) : Type 0 where
  pub at : Past
  pub looked : Past
  pub since : Made p (reverse front) at
  pub between : Made at (reverse seen) looked
  pub until : Made looked (reverse later) q

pub looking : (p q : Past) (es front seen later : List Entry) → Made p es q → reverse es ≡ front ++ (seen ++ later) → Looking p q front seen later
looking p q es front seen later made whole = record { at = first.mid; looked = second.mid; since = first.first; between = second.first; until = second.second }
  where
    first : Cut p q (reverse (seen ++ later)) (reverse front)
    first = cut p q es (reverse (seen ++ later)) (reverse front) (sym (reverse-reverse es) ∙ (ap reverse whole ∙ reverse-append front (seen ++ later))) made

    second : Cut first.mid q (reverse later) (reverse seen)
    second = cut first.mid q (reverse (seen ++ later)) (reverse later) (reverse seen) (reverse-append seen later) first.second

-- what a run does behind its looks
abbrev pub last_entries : Bool → Work → List Entry
last_entries true w = []
last_entries false w = w.did ++ Ends ∷ []

-- all of it, with the reading of its state and the looks as one part
pub around_looks : (debug : Bool) (state : Path) (clock : Clock) (rules : Rules) (w : Work) → run_entries debug state clock rules w ≡ first_entries debug state clock rules w ++ ((w.reads ++ w.looks) ++ last_entries debug w)
around_looks true state clock rules w = ap (λ (es : List Entry). w.dir ++ es) (sym (append-nil (w.reads ++ w.looks)))
around_looks false state clock rules w = ap (λ (es : List Entry). w.dir ++ (Starts state clock.now rules ∷ es)) (sym (append_assoc w.reads w.looks (w.did ++ Ends ∷ [])))
    ∙ sym (append_assoc w.dir (Starts state clock.now rules ∷ []) ((w.reads ++ w.looks) ++ (w.did ++ Ends ∷ [])))

-- they stand so among all entries
pub run_looks : (debug : Bool) (state : Path) (clock : Clock) (rules : Rules) (w : Work) (p q : Past) (es reads : List Entry) → Made p es q → reverse es ≡ reads ++ run_entries debug state clock rules w
    → Looking p q (reads ++ first_entries debug state clock rules w) (w.reads ++ w.looks) (last_entries debug w)
run_looks debug state clock rules w p q es reads made joined = looking p q es (reads ++ first) (w.reads ++ w.looks) last made
    (joined ∙ (ap (λ (us : List Entry). reads ++ us) (around_looks debug state clock rules w) ∙ sym (append_assoc reads first ((w.reads ++ w.looks) ++ last))))
  where
    first : List Entry
    first = first_entries debug state clock rules w

    last : List Entry
    last = last_entries debug w
