-- What is so of each entry of a reading.
use Rattle.std.proofs.Common.{◌≡◌, ◌≤◌, ◌+◌, ℕ, Bool, true, false, List, [], ◌∷◌, length, refl, sym, subst, inl, inr, Option, Some, None}
use Rattle.lr_rules.specs.declared.path.Path.{Path}
use Rattle.lr_conf.specs.Meaning.{Meaning}
use Rattle.lr_host.specs.declared.entry.Entry.{Entry}
use Rattle.lr_host.specs.declared.entry.Entry.TheVariants as entry
use Rattle.lr_host.specs.declared.thing.Seen.{Seen}
use Rattle.lr_host.specs.Told.{Then, Each}
use Rattle.lr_host.specs.Looks.{Sees}
use Rattle.lr_host.specs.Quiet.{IsQuiet, AreQuiet}
use Rattle.lr_host.specs.Reading.{IsReadOf, IsShortRead}
use Rattle.lr_host.proofs.Each.{each_append}
use Rattle.lr_host.proofs.Reading.{reads_only}
use Rattle.lr_include.specs.declared.part.TextEnd.{TextEnd}
use Rattle.lr_include.specs.declared.part.TextEnd.TheVariants as end
use Rattle.lr_include.specs.declared.visit.Visit.{Visit}
use Rattle.lr_include.specs.declared.visit.Visit.TheVariants as visit
use Rattle.lr_include.specs.Visits.{ReadsSome, ReadsPart, ShowsNames, ShowsBytes, ShowsFile, ShowsDir, ShowsVisit, look_failed, nothing, exposed, directory, file, PartText, PartFile, PartVisit}
use Rattle.lr_include.specs.declared.task.Task.{Task}
use Rattle.lr_include.specs.declared.task.Task.TheVariants as task
use Rattle.lr_include.specs.Stages.{Stage, settled_stage, visited, at_visits, begun, is_shallow, room_for, ShowsNext, ShowsVisits, Reads}
use Rattle.lr_include.specs.Lacking.{PartNext, LacksReading}

part_reads : (x : Path) (room : ℕ) (bytes : List ℕ) (how : TextEnd) (ts : List Entry) → ReadsPart x room bytes how ts → Each (IsReadOf x) ts
part_reads x room bytes end.Whole ts r = reads_only x (room + 1) bytes ts r.1
part_reads x room bytes end.TooMany ts r = reads_only x (room + 1) bytes ts r.1
part_reads x room bytes end.Failed ts r = r.1.only

-- those of a first part are of that path
pub some_only : (x : Path) (limit : ℕ) (bytes : List ℕ) (ts : List Entry) → ReadsSome x limit bytes ts → Each (IsReadOf x) ts
some_only x limit bytes ts (inl r) = r.1.only
some_only x limit bytes ts (inr r) = reads_only x limit bytes ts r

part_only : (x : Path) (room : ℕ) (ts : List Entry) → PartText x room ts → Each (IsReadOf x) ts
part_only x room ts p = some_only x (room + 1) p.bytes ts p.reads

-- of looks, listings and short reads
module _ (P : Entry → Type 0) (look : (x : Path) (seen : Option Seen) → P (entry.Look x seen)) (list : (x : Path) (names : List (List ℕ)) → P (entry.List x names)) (read : (x : Path) (from : ℕ) (piece : List ℕ) → length piece ≤ 65536 → P (entry.Reads x from piece)) where
  none_so : (ts : List Entry) → ts ≡ [] → Each P ts
  none_so ts none = subst (Each P) (sym none) tt

  sees_so : (x : Path) {Q : Option Seen → Type 0} (ts : List Entry) → Sees x Q ts → Each P ts
  sees_so x ts s = subst (Each P) (sym s.look) (look x s.seen, tt)

  then_so : {Q R : List Entry → Type 0} (ts : List Entry) → ((us : List Entry) → Q us → Each P us) → ((us : List Entry) → R us → Each P us) → Then Q R ts → Each P ts
  then_so ts f g t = subst (Each P) (sym t.joined) (each_append P t.front t.back (f t.front t.first) (g t.back t.second))

  reads_so : (x : Path) (ts : List Entry) → Each (IsReadOf x) ts → Each IsShortRead ts → Each P ts
  reads_so x [] each short = tt
  reads_so x (entry.Reads y from piece ∷ ts) each short = (read y from piece short.0, reads_so x ts each.1 short.1)
  reads_so x (_ ∷ ts) each short = absurd each.0

  part_so : (x : Path) (room : Option ℕ) (ts : List Entry) → PartFile x room ts → Each P ts
  part_so x None ts p = absurd p
  part_so x (Some room) ts p = reads_so x ts (part_only x room ts p) p.short

  names_so : (x : Path) (v : Visit) (ts : List Entry) → ShowsNames x v ts → Each P ts
  names_so x (visit.Holds names) ts h = subst (Each P) (sym h.1.list) (list x h.1.listed, tt)
  names_so x visit.Unlisted ts h = none_so ts h
  names_so x _ ts h = absurd h

  dir_so : (x : Path) (lists : Bool) (v : Visit) (ts : List Entry) → ShowsDir x lists v ts → Each P ts
  dir_so x true v ts h = names_so x v ts h
  dir_so x false v ts h = none_so ts h.1

  bytes_so : (x : Path) (room : ℕ) (v : Visit) (ts : List Entry) → ShowsBytes x room v ts → Each P ts
  bytes_so x room (visit.Reads told size how) ts h = reads_so x ts (part_reads x room h.bytes how ts h.reads) h.short
  bytes_so x room _ ts h = absurd h

  file_so : (x : Path) (room : Option ℕ) (v : Visit) (ts : List Entry) → ShowsFile x room v ts → Each P ts
  file_so x None v ts h = none_so ts h.1
  file_so x (Some room) v ts h = bytes_so x room v ts h

  visit_so : (x : Path) (lists : Bool) (room : Option ℕ) (v : Visit) (ts : List Entry) → ShowsVisit x lists room v ts → Each P ts
  visit_so x lists room v ts (look_failed is e) = none_so ts e
  visit_so x lists room v ts (nothing is s) = sees_so x ts s
  visit_so x lists room v ts (exposed is s) = sees_so x ts s
  visit_so x lists room v ts (directory r) = then_so ts (λ us s. sees_so x us s) (λ us h. dir_so x lists v us h) r
  visit_so x lists room v ts (file r) = then_so ts (λ us s. sees_so x us s) (λ us h. file_so x room v us h) r

  next_so : (s : Stage) (todo : List Task) (v : Option Visit) (ts : List Entry) → ShowsNext s todo v ts → Each P ts
  next_so s (task.Ask a ∷ todo) (Some v) ts h = visit_so a.path (is_shallow s) (room_for s) v ts h
  next_so s (task.Name a ∷ todo) (Some v) ts h = visit_so a.path false (room_for s) v ts h.1
  next_so s (task.Name a ∷ todo) None ts h = none_so ts h.1
  next_so s (task.Ask a ∷ todo) None ts h = absurd h
  next_so s (task.Line p ∷ todo) v ts h = absurd h
  next_so s [] v ts h = absurd h

  visits_so : (s : Stage) (vs : List (Option Visit)) (ts : List Entry) → ShowsVisits s vs ts → Each P ts
  visits_so s [] ts h = none_so ts h
  visits_so s (v ∷ vs) ts h = then_so ts (λ us n. next_so (settled_stage s) (settled_stage s).todo v us n) (λ us m. visits_so (visited (settled_stage s) v) vs us m) h

  pub all_so : (paths : List Path) (m : Meaning) (ts : List Entry) → Reads paths m ts → Each P ts
  all_so paths m ts r = visits_so (begun paths) r.visits ts r.shown

  -- ---- where it ends for want of memory

  part_visit_so : (x : Path) (room : Option ℕ) (ts : List Entry) → PartVisit x room ts → Each P ts
  part_visit_so x room ts (inl none) = none_so ts none
  part_visit_so x room ts (inr (inl s)) = sees_so x ts s
  part_visit_so x room ts (inr (inr t)) = then_so ts (λ us s. sees_so x us s) (λ us h. part_so x room us h) t

  part_next_so : (s : Stage) (todo : List Task) (ts : List Entry) → PartNext s todo ts → Each P ts
  part_next_so s (task.Ask a ∷ todo) ts h = part_visit_so a.path (room_for s) ts h
  part_next_so s (task.Name a ∷ todo) ts h = part_visit_so a.path (room_for s) ts h.1
  part_next_so s (task.Line p ∷ todo) ts h = none_so ts h
  part_next_so s [] ts h = none_so ts h

  pub lacking_so : (paths : List Path) (ts : List Entry) → LacksReading paths ts → Each P ts
  lacking_so paths ts l = then_so ts (λ us h. visits_so (begun paths) l.visits us h) (λ us h. part_next_so (at_visits (begun paths) l.visits) (at_visits (begun paths) l.visits).todo us h) l.shown

-- ---- each is quiet, and each read is short

pub reads_quiet : (paths : List Path) (m : Meaning) (ts : List Entry) → Reads paths m ts → AreQuiet ts
reads_quiet = all_so IsQuiet (λ x seen. (tt, refl)) (λ x names. (tt, refl)) (λ x from piece le. (tt, refl))

pub lacking_quiet : (paths : List Path) (ts : List Entry) → LacksReading paths ts → AreQuiet ts
lacking_quiet = lacking_so IsQuiet (λ x seen. (tt, refl)) (λ x names. (tt, refl)) (λ x from piece le. (tt, refl))

pub reads_short : (paths : List Path) (m : Meaning) (ts : List Entry) → Reads paths m ts → Each IsShortRead ts
reads_short = all_so IsShortRead (λ x seen. tt) (λ x names. tt) (λ x from piece le. le)

pub lacking_short : (paths : List Path) (ts : List Entry) → LacksReading paths ts → Each IsShortRead ts
lacking_short = lacking_so IsShortRead (λ x seen. tt) (λ x names. tt) (λ x from piece le. le)
