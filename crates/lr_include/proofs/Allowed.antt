-- The faults of lines are those of the configuration, and of failed calls only where a line has one.
use Rattle.std.proofs.Common.{ℕ, Bool, true, false, cond, List, [], ◌∷◌, ◌++◌, map, Option, Some, None, Ok, Err, refl, is_none}
use Rattle.std.specs.List.{AllByRecursion as Each, filter_map, list_any, find}
use Rattle.std.specs.Str.{bytes_eq}
use Rattle.std.specs.Prelude.{All}
use Rattle.std.proofs.lemmas.List.Elements.{All-from_recursion}
use Rattle.lr_rules.specs.declared.path.Path.{Path}
use Rattle.lr_rules.specs.declared.fault.CallKind.TheVariants as call
use Rattle.lr_rules.specs.declared.fault.Fault.{Fault}
use Rattle.lr_rules.specs.declared.fault.Fault.TheVariants as fault
use Rattle.lr_include.specs.Readers.{IsConfOrCall}
use Rattle.lr_rules.specs.declared.fault.ConfKind.{ConfKind}
use Rattle.lr_rules.specs.declared.fault.ConfKind.TheVariants as kind
use Rattle.lr_rules.specs.Path.{path_fault, joined}
use Rattle.lr_lex.specs.Items.{Told}
use Rattle.lr_conf.specs.declared.fields.Fields.{Fields}
use Rattle.lr_forms.specs.declared.set.Set.{Set}
use Rattle.lr_forms.specs.declared.said.LineSaid.{LineSaid}
use Rattle.lr_forms.specs.declared.said.LineSaid.TheVariants as says
use Rattle.lr_conf.specs.Fields.{fields_of, last_or}
use Rattle.lr_conf.specs.declared.stop.Include.{Include}
use Rattle.lr_conf.specs.Meaning.{ConfLine, Read, Spoiled, End, Cut, OutsideLine, stands, spoiled, Meaning, conf, nothing, line_file, first_pending, words_pending, words_with, settings, opened_at, opens_definition, outside_line, before, through, behind, ends, InsideLine, states, broken, left_open, within, body_of, drops, set_in, line_fault, fault_in, broken_fault, spoilt_fault, only_faults, at_line, left_names, stray_at, own_fault, line_faults, of_end, of_body, of_opening, meaning}
use Rattle.lr_conf.proofs.Each.{append, front, Given, one_more, mapped}
use Rattle.lr_include.specs.declared.part.TextEnd.{TextEnd}
use Rattle.lr_include.specs.declared.part.TextEnd.TheVariants as end
use Rattle.lr_include.specs.declared.visit.Visit.{Visit}
use Rattle.lr_include.specs.declared.visit.Visit.TheVariants as visit
use Rattle.lr_include.specs.declared.task.Ask.{Ask}
use Rattle.lr_include.specs.declared.task.ReadPiece.{ReadPiece}
use Rattle.lr_include.specs.declared.task.ReadPiece.TheVariants as piece
use Rattle.lr_include.specs.declared.task.Task.{Task}
use Rattle.lr_include.specs.declared.task.Task.TheVariants as task
use Rattle.lr_include.specs.Lines.{conf_kind}
use Rattle.lr_include.specs.Allowed.{IsAllowed, IsAllowedVisit, AreAllowedVisits}
use Rattle.lr_include.specs.Stages.{Stage, lines_in, lines_now, ask_of, asked_at, asks_in, asks_now, past_piece, before_asks, settled_from, settled_stage, kind_piece, piece_of, last_piece, line_tasks, entering, name_task, name_tasks, telling_exposed, behind_names, after_ask, after_name, visited, visited_by, at_visits, begun, line_ask, visits_mean}

through_each : {A : Type 0} (P : A → Type 0) (p : A → Bool) (xs : List A) → Each P xs → Each P (through p xs)
through_each P p [] a = tt
through_each P p (x ∷ xs) a = (a.0, by (p x) (through_each P p xs a.1))
  where
    by : (b : Bool) → Each P (through p xs) → Each P (cond b [] (through p xs))
    by true h = tt
    by false h = h

behind_each : {A : Type 0} (P : A → Type 0) (p : A → Bool) (xs : List A) → Each P xs → Each P (behind p xs)
behind_each P p [] a = tt
behind_each P p (x ∷ xs) a = by (p x) (behind_each P p xs a.1)
  where
    by : (b : Bool) → Each P (behind p xs) → Each P (cond b xs (behind p xs))
    by true h = a.1
    by false h = h

abbrev pub IsFine : Bool → ConfLine → Type 0
IsFine calls (Spoiled f) = (IsAllowed calls) f
IsFine calls e = Unit {0}

abbrev pub IsFinePast : Bool → OutsideLine → Type 0
IsFinePast calls (spoiled f) = (IsAllowed calls) f
IsFinePast calls p = Unit {0}

past_fine : (calls : Bool) (e : ConfLine) → (IsFine calls) e → (IsFinePast calls) (outside_line e)
past_fine calls (Read file i) ok = tt
past_fine calls (Spoiled f) ok = ok
past_fine calls (End file) ok = tt
past_fine calls Cut ok = tt

abbrev pub Faults : Bool → Meaning → Type 0
Faults calls m = Each (IsAllowed calls) m.faults

-- ---- lines

said_fine : (calls : Bool) (file : Path) (at : ℕ) (v : LineSaid) → Given (IsAllowed calls) (line_fault file at v)
said_fine calls file at says.Unknown = tt
said_fine calls file at (says.Bad k) = tt
said_fine calls file at v = tt

-- in a definition
abbrev pub IsFineWithin : Bool → InsideLine → Type 0
IsFineWithin calls (broken f) = (IsAllowed calls) f
IsFineWithin calls w = Unit {0}

within_fine : (calls : Bool) (earlier : List ConfLine) (e : ConfLine) → (IsFine calls) e → (IsFineWithin calls) (within earlier e)
within_fine calls earlier (Read file i) ok = tt
within_fine calls earlier (Spoiled f) ok = ok
within_fine calls earlier (End file) ok = tt
within_fine calls earlier Cut ok = tt

lines_fine : (calls : Bool) (earlier es : List ConfLine) → Each (IsFine calls) es → Each (IsFineWithin calls) (body_of earlier es)
lines_fine calls earlier [] ok = tt
lines_fine calls earlier (e ∷ es) ok = ((within_fine calls) earlier e ok.0, (lines_fine calls) (earlier ++ e ∷ []) es ok.1)

inside_fine : (calls : Bool) (w : InsideLine) → (IsFineWithin calls) w → Given (IsAllowed calls) (fault_in w)
inside_fine calls (states file at v) ok = (said_fine calls) file at v
inside_fine calls (broken f) ok = ok
inside_fine calls left_open ok = tt

broken_fine : (calls : Bool) (w : InsideLine) → (IsFineWithin calls) w → Given (IsAllowed calls) (broken_fault w)
broken_fine calls (states file at v) ok = tt
broken_fine calls (broken f) ok = ok
broken_fine calls left_open ok = tt

spoilt_fine : (calls : Bool) (e : ConfLine) → (IsFine calls) e → Given (IsAllowed calls) (spoilt_fault e)
spoilt_fine calls (Read file i) ok = tt
spoilt_fine calls (Spoiled f) ok = ok
spoilt_fine calls (End file) ok = tt
spoilt_fine calls Cut ok = tt

at_fine : (calls : Bool) (file : Path) (k : ConfKind) (o : Option ℕ) → Each (IsAllowed calls) (at_line file k o)
at_fine calls file k None = tt
at_fine calls file k (Some at) = (tt, tt)

stray_fine : (calls : Bool) (file : Path) (o : Option ℕ) (at : ℕ) → Each (IsAllowed calls) (stray_at file o at)
stray_fine calls file None at = (tt, tt)
stray_fine calls file (Some first) at = tt

own_fine : (calls : Bool) (file : Path) (first : Option ℕ) (p : OutsideLine) → (IsFinePast calls) p → Each (IsAllowed calls) (own_fault file first p)
own_fine calls file first (stands at brace says.Close) ok = (stray_fine calls) file first at
own_fine calls file first (stands at brace says.Open) ok = (stray_fine calls) file first at
own_fine calls file first (stands at brace says.Unknown) ok = (tt, tt)
own_fine calls file first (stands at brace (says.Bad k)) ok = (tt, tt)
own_fine calls file first (stands at brace (says.BadNames k)) ok = (tt, tt)
own_fine calls file first (spoiled f) ok = (ok, tt)
own_fine calls file first p ok = tt

line_fine : (calls : Bool) (file : Path) (first : Option ℕ) (p : OutsideLine) → (IsFinePast calls) p → Each (IsAllowed calls) (line_faults file first p)
line_fine calls file first p ok = append (IsAllowed calls) (at_line file kind.NoBrace (left_names first p)) (own_fault file first p) ((at_fine calls) file kind.NoBrace (left_names first p)) ((own_fine calls) file first p ok)

-- ---- meanings

either : (calls : Bool) (b : Bool) (m n : Meaning) → Faults calls m → Faults calls n → Faults calls (cond b m n)
either calls true m n a c = a
either calls false m n a c = c

end_fine : (calls : Bool) (at : ℕ) (words : List (List ℕ)) (f : Fields) (o : Option ConfLine) → Faults calls (of_end at words f o)
end_fine calls at words f None = tt
end_fine calls at words f (Some (Read file i)) = tt
end_fine calls at words f (Some (Spoiled e)) = tt
end_fine calls at words f (Some (End file)) = (tt, tt)
end_fine calls at words f (Some Cut) = tt

body_fine : (calls : Bool) (o : Option ℕ) (words : List (List ℕ)) (vs : List Set) (es : List ConfLine) → Each (IsFine calls) es → Faults calls (of_body o words vs es)
body_fine calls None words vs es ok = mapped (IsFine calls) (IsAllowed calls) spoilt_fault (spoilt_fine calls) (before ends es) (front (IsFine calls) ends es ok)
body_fine calls (Some at) words vs es ok =
    let body = body_of [] (before ends es) in
    let fine : Each (IsFineWithin calls) body = (lines_fine calls) [] (before ends es) (front (IsFine calls) ends es ok) in
    let f = fields_of (vs ++ filter_map set_in body) in
    let rest = only_faults (filter_map broken_fault (behind drops body)) in
    append (IsAllowed calls) (filter_map fault_in (through drops body)) (cond (list_any drops body) rest (of_end at words f (find ends es))).faults
    (mapped (IsFineWithin calls) (IsAllowed calls) fault_in (inside_fine calls) (through drops body) (through_each (IsFineWithin calls) drops body fine))
    ((either calls) (list_any drops body) rest (of_end at words f (find ends es))
    (mapped (IsFineWithin calls) (IsAllowed calls) broken_fault (broken_fine calls) (behind drops body) (behind_each (IsFineWithin calls) drops body fine)) ((end_fine calls) at words f (find ends es)))

opening_fine : (calls : Bool) (out : List OutsideLine) (p : OutsideLine) (es : List ConfLine) → Each (IsFine calls) es → Faults calls (of_opening out p es)
opening_fine calls out p es ok =
    (either calls) (opens_definition p) (of_body (opened_at (first_pending out) p) (words_with (words_pending out) p) (settings (out ++ p ∷ [])) es) nothing
    ((body_fine calls) (opened_at (first_pending out) p) (words_with (words_pending out) p) (settings (out ++ p ∷ [])) es ok) tt

pub meaning_fine : (calls : Bool) (es : List ConfLine) (inside : Bool) (out : List OutsideLine) → Each (IsFine calls) es → Faults calls (meaning inside out es)
meaning_fine calls [] true out ok = tt
meaning_fine calls [] false out ok = tt
meaning_fine calls (e ∷ es) true out ok =
    let p = outside_line e in
    (either calls) (ends e) (meaning false (out ++ p ∷ []) es) (meaning true out es) ((meaning_fine calls) es false (out ++ p ∷ []) ok.1) ((meaning_fine calls) es true out ok.1)
meaning_fine calls (e ∷ es) false out ok =
    let p = outside_line e in
    append (IsAllowed calls) (line_faults (line_file e) (first_pending out) p) ((of_opening out p es).faults ++ (meaning (opens_definition p) (out ++ p ∷ []) es).faults)
    ((line_fine calls) (line_file e) (first_pending out) p ((past_fine calls) e ok.0))
    (append (IsAllowed calls) (of_opening out p es).faults (meaning (opens_definition p) (out ++ p ∷ []) es).faults
    ((opening_fine calls) out p es ok.1) ((meaning_fine calls) es (opens_definition p) (out ++ p ∷ []) ok.1))

-- ---- stages

abbrev FinePiece : Bool → ReadPiece → Type 0
FinePiece calls (piece.Break f) = IsAllowed calls f
FinePiece calls p = Unit {0}

abbrev FineTask : Bool → Task → Type 0
FineTask calls (task.Line p) = FinePiece calls p
FineTask calls t = Unit {0}

abbrev FineStage : Bool → Stage → Type 0
FineStage calls s = Each (IsFine calls) s.lines × Each (FineTask calls) s.todo

lines_in_fine : (calls : Bool) (file : Path) (p : ReadPiece) → FinePiece calls p → Each (IsFine calls) (lines_in file p)
lines_in_fine calls file (piece.Item i) ok = (tt, tt)
lines_in_fine calls file (piece.Fault at k) ok = (tt, tt)
lines_in_fine calls file piece.End ok = (tt, tt)
lines_in_fine calls file (piece.Break f) ok = (ok, (tt, tt))

lines_now_fine : (calls : Bool) (inside : List Path) (p : ReadPiece) → FinePiece calls p → Each (IsFine calls) (lines_now inside p)
lines_now_fine calls [] p ok = tt
lines_now_fine calls (file ∷ files) p ok = lines_in_fine calls (last_or [] (file ∷ files)) p ok

asks_fine : (calls : Bool) (file : Path) (is : List Include) → Each (FineTask calls) (map (ask_of file) is)
asks_fine calls file [] = tt
asks_fine calls file (i ∷ is) = (tt, asks_fine calls file is)

asks_in_fine : (calls : Bool) (file : Path) (lines : List ConfLine) (p : ReadPiece) → Each (FineTask calls) (asks_in file lines p)
asks_in_fine calls file lines (piece.Item i) = asks_fine calls file (asked_at lines (Read file i))
asks_in_fine calls file lines (piece.Fault at k) = tt
asks_in_fine calls file lines piece.End = tt
asks_in_fine calls file lines (piece.Break f) = tt

asks_now_fine : (calls : Bool) (inside : List Path) (lines : List ConfLine) (p : ReadPiece) → Each (FineTask calls) (asks_now inside lines p)
asks_now_fine calls [] lines p = tt
asks_now_fine calls (file ∷ files) lines p = asks_in_fine calls (last_or [] (file ∷ files)) lines p

before_fine : (calls : Bool) (asks : List Task) (here next : Stage) → FineStage calls here → FineStage calls next → FineStage calls (before_asks asks here next)
before_fine calls [] here next h n = n
before_fine calls (t ∷ ts) here next h n = h

settled_fine : (calls : Bool) (s : Stage) (todo : List Task) → Each (IsFine calls) s.lines → Each (FineTask calls) todo → FineStage calls (settled_from s todo)
settled_fine calls s [] l t = (l, tt)
settled_fine calls s (task.Line p ∷ todo) l t =
    let lines = append (IsFine calls) s.lines (lines_now s.inside p) l (lines_now_fine calls s.inside p t.0) in
    before_fine calls (asks_now s.inside s.lines p) (record (past_piece s p) { todo = asks_now s.inside s.lines p ++ todo }) (settled_from (past_piece s p) todo)
    (lines, append (FineTask calls) (asks_now s.inside s.lines p) todo (asks_now_fine calls s.inside s.lines p) t.1)
    (settled_fine calls (past_piece s p) todo lines t.1)
settled_fine calls s (task.Ask a ∷ todo) l t = (l, t)
settled_fine calls s (task.Name a ∷ todo) l t = (l, t)

-- ---- visits

kind_piece_fine : (calls : Bool) (at : ℕ) (o : Option ConfKind) → Given (FinePiece calls) (kind_piece at o)
kind_piece_fine calls at None = tt
kind_piece_fine calls at (Some k) = tt

pieces_fine : (calls : Bool) (ts : List Told) → Each (FinePiece calls) (filter_map piece_of ts)
pieces_fine calls [] = tt
pieces_fine calls (Ok i ∷ ts) = (tt, pieces_fine calls ts)
pieces_fine calls (Err f ∷ ts) = one_more (FinePiece calls) (kind_piece f.line (conf_kind f.kind)) (filter_map piece_of ts) (kind_piece_fine calls f.line (conf_kind f.kind)) (pieces_fine calls ts)

last_fine : (calls : Bool) (file : Path) (told : List Told) (size : ℕ) (how : TextEnd) → IsAllowedVisit calls (visit.Reads told size how) → FinePiece calls (last_piece file how)
last_fine calls file told size end.Whole ok = tt
last_fine calls file told size end.TooMany ok = tt
last_fine calls file told size end.Failed ok = ok refl

tasks_fine : (calls : Bool) (ps : List ReadPiece) → Each (FinePiece calls) ps → Each (FineTask calls) (map task.Line ps)
tasks_fine calls [] ok = tt
tasks_fine calls (p ∷ ps) ok = (ok.0, tasks_fine calls ps ok.1)

names_fine : (calls : Bool) (a : Ask) (names : List (List ℕ)) → Each (FineTask calls) (name_tasks a names)
names_fine calls a [] = tt
names_fine calls a (n ∷ ns) = one_more (FineTask calls) (name_task a n) (name_tasks a ns) (one (is_none (path_fault (joined a.path n)))) (names_fine calls a ns)
  where
    one : (b : Bool) → Given (FineTask calls) (cond b (Some (task.Name (record { file = a.file; line = a.line; path = joined a.path n }))) None)
    one true = tt
    one false = tt

behind_fine : (calls : Bool) (todo : List Task) → Each (FineTask calls) todo → Each (FineTask calls) (behind_names todo)
behind_fine calls [] ok = tt
behind_fine calls (task.Line p ∷ todo) ok = ok
behind_fine calls (task.Ask a ∷ todo) ok = ok
behind_fine calls (task.Name a ∷ todo) ok = behind_fine calls todo ok.1

entering_fine : (calls : Bool) (s : Stage) (file : Path) (told : List Told) (size : ℕ) (how : TextEnd) (todo : List Task) → IsAllowedVisit calls (visit.Reads told size how) → Each (IsFine calls) s.lines → Each (FineTask calls) todo → FineStage calls (entering s file told size how todo)
entering_fine calls s file told size how todo ok l t =
    (l, append (FineTask calls) (line_tasks told) (task.Line (last_piece file how) ∷ todo) (tasks_fine calls (filter_map piece_of told) (pieces_fine calls told)) (last_fine calls file told size how ok, t))

exposed_fine : (calls : Bool) (s : Stage) (file : Path) (todo : List Task) → Each (IsFine calls) s.lines → Each (FineTask calls) todo → FineStage calls (telling_exposed s file todo)
exposed_fine calls s file todo l t = by (list_any (bytes_eq file) s.exposed)
  where
    by : (b : Bool) → FineStage calls (cond b (record s { todo = todo }) (record s { lines = s.lines ++ Spoiled (conf file kind.Writable 0) ∷ []; exposed = s.exposed ++ file ∷ []; todo = todo }))
    by true = (l, t)
    by false = (append (IsFine calls) s.lines _ l (tt, tt), t)

ask_fine : (calls : Bool) (s : Stage) (a : Ask) (v : Visit) (todo : List Task) → IsAllowedVisit calls v → Each (IsFine calls) s.lines → Each (FineTask calls) todo → FineStage calls (after_ask s a v todo)
ask_fine calls s a visit.Unseen todo ok l t = (append (IsFine calls) s.lines _ l (ok tt, tt), t)
ask_fine calls s a visit.Nothing todo ok l t = (append (IsFine calls) s.lines _ l (tt, tt), t)
ask_fine calls s a visit.File todo ok l t = (append (IsFine calls) s.lines _ l (tt, tt), t)
ask_fine calls s a visit.Exposed todo ok l t = exposed_fine calls s a.path todo l t
ask_fine calls s a visit.Dir todo ok l t = (append (IsFine calls) s.lines _ l (tt, tt), t)
ask_fine calls s a visit.Unlisted todo ok l t = (append (IsFine calls) s.lines _ l (ok tt, tt), t)
ask_fine calls s a (visit.Holds names) todo ok l t = (l, append (FineTask calls) (name_tasks a names) todo (names_fine calls a names) t)
ask_fine calls s a (visit.Reads told size how) todo ok l t = entering_fine calls s a.path told size how todo ok l t

name_fine : (calls : Bool) (s : Stage) (a : Ask) (v : Visit) (todo : List Task) → IsAllowedVisit calls v → Each (IsFine calls) s.lines → Each (FineTask calls) todo → FineStage calls (after_name s a v todo)
name_fine calls s a visit.Unseen todo ok l t = (append (IsFine calls) s.lines _ l (ok tt, tt), t)
name_fine calls s a visit.Nothing todo ok l t = (l, t)
name_fine calls s a visit.File todo ok l t = (append (IsFine calls) s.lines _ l (tt, tt), behind_fine calls todo t)
name_fine calls s a visit.Exposed todo ok l t = exposed_fine calls s a.path todo l t
name_fine calls s a visit.Dir todo ok l t = (l, t)
name_fine calls s a visit.Unlisted todo ok l t = (l, t)
name_fine calls s a (visit.Holds names) todo ok l t = (l, t)
name_fine calls s a (visit.Reads told size how) todo ok l t = entering_fine calls s a.path told size how todo ok l t

visited_fine : (calls : Bool) (s : Stage) (todo : List Task) (v : Option Visit) → AreAllowedVisits calls (v ∷ []) → FineStage calls s → Each (FineTask calls) todo → FineStage calls (visited_by s todo v)
visited_fine calls s (task.Ask a ∷ todo) (Some v) ok f t = ask_fine calls s a v todo ok.0 f.0 t.1
visited_fine calls s (task.Name a ∷ todo) (Some v) ok f t = name_fine calls s a v todo ok.0 f.0 t.1
visited_fine calls s (task.Name a ∷ todo) None ok f t = (f.0, t.1)
visited_fine calls s (task.Ask a ∷ todo) None ok f t = f
visited_fine calls s [] v ok f t = f
visited_fine calls s (task.Line p ∷ todo) v ok f t = f

visits_fine : (calls : Bool) (s : Stage) (vs : List (Option Visit)) → AreAllowedVisits calls vs → FineStage calls s → FineStage calls (at_visits s vs)
visits_fine calls s [] ok f = settled_fine calls s s.todo f.0 f.1
visits_fine calls s (Some v ∷ vs) ok f =
    let here = settled_fine calls s s.todo f.0 f.1 in
    visits_fine calls (visited (settled_stage s) (Some v)) vs ok.1 (visited_fine calls (settled_stage s) (settled_stage s).todo (Some v) (ok.0, tt) here here.1)
visits_fine calls s (None ∷ vs) ok f =
    let here = settled_fine calls s s.todo f.0 f.1 in
    visits_fine calls (visited (settled_stage s) None) vs ok.1 (visited_fine calls (settled_stage s) (settled_stage s).todo None (tt, tt) here here.1)

begun_fine : (calls : Bool) (paths : List Path) → Each (FineTask calls) (map line_ask paths)
begun_fine calls [] = tt
begun_fine calls (x ∷ xs) = (tt, begun_fine calls xs)

-- the faults that visits mean
pub means_allowed : (calls : Bool) (paths : List Path) (vs : List (Option Visit)) → AreAllowedVisits calls vs → Each (IsAllowed calls) (visits_mean paths vs).faults
means_allowed calls paths vs ok = meaning_fine calls (at_visits (begun paths) vs).lines false [] (visits_fine calls (begun paths) vs ok (tt, begun_fine calls paths)).0

-- whichever visits there were
all_allowed : (vs : List (Option Visit)) → AreAllowedVisits true vs
all_allowed [] = tt
all_allowed (Some v ∷ vs) = (λ failed. refl, all_allowed vs)
all_allowed (None ∷ vs) = (tt, all_allowed vs)

conf_or_call : (fs : List Fault) → Each (IsAllowed true) fs → Each IsConfOrCall fs
conf_or_call [] ok = tt
conf_or_call (fault.Conf file line kind ∷ fs) ok = (tt, conf_or_call fs ok.1)
conf_or_call (fault.Call call.Look path ∷ fs) ok = (tt, conf_or_call fs ok.1)
conf_or_call (fault.Call call.List path ∷ fs) ok = (tt, conf_or_call fs ok.1)
conf_or_call (fault.Call call.Read path ∷ fs) ok = (tt, conf_or_call fs ok.1)
conf_or_call (_ ∷ fs) ok = absurd ok.0

pub only_those : (paths : List Path) (vs : List (Option Visit)) → All IsConfOrCall (visits_mean paths vs).faults
only_those paths vs = All-from_recursion IsConfOrCall (visits_mean paths vs).faults (conf_or_call (visits_mean paths vs).faults (means_allowed true paths vs (all_allowed vs)))
